-- The turns of a legal schedule are fit to be run.
use Rattle.std.proofs.Common.{◌≡◌, ℕ, suc, ◌<◌, ◌≤◌, ◌^◌, List, [], ◌∷◌, ◌++◌, length, refl, ap, sym, subst, ◌∙◌, arith}
use Rattle.std.specs.List.{AllByRecursion}
use Rattle.std.specs.Option.{option_to_list}
use Rattle.symbol_table.specs.Symbols.{Symbols}
use Rattle.tree_shapes.specs.Labelled.{size}
use Rattle.program_text.specs.Letters.{letters, measurements}
use Rattle.program_text.specs.Program.{Program}
use Rattle.program_text.specs.WellFormed.{IsProgram, commands_in}
use Rattle.word_runs.specs.Lives.{IsFit}
use Rattle.word_runs.proofs.RunLemmas.{letters_fit, letters_long}
use Rattle.run_laws.specs.Programs.{commands_of}
use Rattle.run_laws.specs.Turns.{after_turn, in_text, turns}
use Rattle.run_laws.proofs.Counts.{takes_all}
use Rattle.run_laws.proofs.Exchanges.{TakesAll}
use Rattle.run_laws.proofs.LetterPlaces.{all_turns}
use Rattle.run_laws.proofs.ProgramLemmas.{programs_may_run}
use Rattle.run_laws.proofs.TextOrder.{letters_of_text}
use Rattle.site_schedule.specs.Legal.{IsLegal, letters_in}
use Rattle.site_schedule.proofs.TurnLemmas.{one_taken}
use Rattle.outcome_rows.proofs.ProgramLemmas.{program_gaps, program_tests}
use Rattle.runner.specs.Trees.{tree_told}

-- there are no more turns than commands
turns_short : {A : Type 0} (schedule : List ℕ) (sites : List (List A)) → TakesAll sites schedule → length (turns sites schedule) ≤ length (in_text sites)
turns_short [] sites r = omega arith
turns_short (i ∷ schedule) sites r =
    let rest : length (turns (after_turn i sites) schedule) ≤ length (in_text (after_turn i sites)) = turns_short schedule (after_turn i sites) r.1 in
    let one : length (in_text sites) ≡ suc (length (in_text (after_turn i sites))) = one_taken i sites r.0.0 r.0.1 in
    subst (λ o. length (option_to_list o ++ turns (after_turn i sites) schedule) ≤ length (in_text sites)) (sym r.0.1) (omega arith)

module _ {E : Type 0} (c : Symbols E) (p : Program) (schedule : List ℕ) (is : IsProgram c.fuse c.count p) (legal : IsLegal p schedule) where
  text_letters : in_text (letters_in p) ≡ letters 0 (commands_in p.sites)
  text_letters = letters_of_text 0 (commands_of p.sites) ∙ ap (letters 0) (programs_may_run c.fuse c.count p is).text

  -- each letter is at a gap of the strands, and its place is one of the measurements
  pub turns_fit : AllByRecursion (IsFit (tree_told c (size p.start)) (measurements (commands_in p.sites))) (turns (letters_in p) schedule)
  turns_fit =
      let e = tree_told c (size p.start) in
      all_turns (IsFit e (measurements (commands_in p.sites))) schedule (letters_in p) (takes_all schedule (letters_in p) legal.whole)
      (subst (AllByRecursion (IsFit e (measurements (commands_in p.sites)))) (sym text_letters)
      (letters_fit e (measurements (commands_in p.sites)) 0 (commands_in p.sites) (omega arith) (program_tests c.fuse c.count p is) (program_gaps e c.fuse c.count p refl is)))

  pub turns_few : length (turns (letters_in p) schedule) < 2 ^ 31
  turns_few =
      let short = turns_short schedule (letters_in p) (takes_all schedule (letters_in p) legal.whole) in
      let long : length (in_text (letters_in p)) ≡ length (commands_in p.sites) = ap length text_letters ∙ letters_long 0 (commands_in p.sites) in
      let few : length (commands_in p.sites) ≤ 4096 = is.few in
      omega arith
