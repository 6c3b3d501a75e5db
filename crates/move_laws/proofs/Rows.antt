-- Programs whose letters are linked have equal rows.
use Rattle.std.proofs.Common.{◌≡◌, ℕ, List, map, refl, ap, sym, ◌∙◌}
use Rattle.std.specs.Prelude.{not}
use Rattle.std.specs.List.{filter}
use Rattle.symbol_table.specs.Symbols.{Symbols}
use Rattle.tree_shapes.specs.Labelled.{Labelled, leaves, size}
use Rattle.program_text.specs.Letters.{letters, measurements}
use Rattle.program_text.specs.WellFormed.{commands_in}
use Rattle.program_text.specs.declared.letter.Letter.{Letter}
use Rattle.program_text.specs.declared.plan.Command.{Command}
use Rattle.comb_laws.specs.Amplitudes.{start_vector}
use Rattle.comb_laws.specs.Operators.{weight}
use Rattle.comb_laws.specs.Paths.{Vector}
use Rattle.comb_laws.specs.Plans.{outcomes_of, rows_from, words}
use Rattle.comb_laws.specs.Words.{comb_acts, word_state}
use Rattle.comb_laws.proofs.StartLemmas.{length-leaves}
use Rattle.path_laws.specs.Moves.{IsOver, StartsAreOver}
use Rattle.run_laws.specs.Combs.{IsCombVector}
use Rattle.word_moves.specs.Moves.{moving, moving_letters}
use Rattle.word_moves.specs.Verdicts.{AreLinked}
use Rattle.move_laws.specs.Linked.{LinkedHaveEqualRows}
use Rattle.move_laws.proofs.Counts.{charges, charges_of_letters, charges_of_moving, moves_keep_charges, moving_at_gaps, sites_at_gaps}
use Rattle.move_laws.proofs.Fronts.{linked_holds}
use Rattle.move_laws.proofs.Steps.{HasBraidLaws, linked_keep_words, state_of_moving}

linked_charges : (n : ℕ) (ls ls' : List Letter) → AreLinked n ls ls' → charges ls ≡ charges ls'
linked_charges n = linked_holds n (λ ls ls'. charges ls ≡ charges ls') (λ ls. refl) (λ move ls next ls' made rest. moves_keep_charges n move ls next made ∙ rest)

-- linked lists of commands measure equally often
linked_measurements : (n : ℕ) (cs ds : List Command) → AreLinked n (moving (letters 0 cs)) (moving (letters 0 ds)) → measurements cs ≡ measurements ds
linked_measurements n cs ds linked =
    sym (charges_of_moving (letters 0 cs) ∙ charges_of_letters 0 cs)
    ∙ (linked_charges n (moving (letters 0 cs)) (moving (letters 0 ds)) linked
    ∙ (charges_of_moving (letters 0 ds) ∙ charges_of_letters 0 ds))

module _ {E : Type 0} (c : Symbols E) where
  -- as many measurements and equal states give equal rows
  rows_same : (strands : List ℕ) (v : Vector E) (cs ds : List Command) → measurements cs ≡ measurements ds
      → ((word : List ℕ) → word_state (comb_acts c) word (letters 0 cs) (strands, v) ≡ word_state (comb_acts c) word (letters 0 ds) (strands, v))
      → rows_from c strands v cs ≡ rows_from c strands v ds
  rows_same strands v cs ds measured states m =
      filter (λ row. not (c.held.is_zero row.1)) (map (λ word. (word, weight c (states word m).0 (states word m).1)) (words c.count (measured m)))

  start_is : StartsAreOver c → (tree : Labelled) → IsCombVector c (size tree) (leaves tree, start_vector c tree)
  start_is over tree = let is : IsOver c (leaves tree) (start_vector c tree) = over tree in record { strands = length-leaves tree; members = is.members; off = is.off }

  pub linked_have_equal_rows : HasBraidLaws c → StartsAreOver c → LinkedHaveEqualRows c
  linked_have_equal_rows has over p q is_p is_q same linked =
      (λ m. record { total = weight c (leaves p.start) (start_vector c p.start); rows = rows m }) ∙ ap (λ tree. outcomes_of c tree (commands_in q.sites)) same
    where
      states : (word : List ℕ) → word_state (comb_acts c) word (letters 0 (commands_in p.sites)) (leaves p.start, start_vector c p.start)
          ≡ word_state (comb_acts c) word (letters 0 (commands_in q.sites)) (leaves p.start, start_vector c p.start)
      states word =
          sym (state_of_moving (comb_acts c) word (letters 0 (commands_in p.sites)) (leaves p.start, start_vector c p.start))
          ∙ (linked_keep_words c has (size p.start) (moving_letters p) (moving_letters q) word (leaves p.start) (start_vector c p.start) linked
          (moving_at_gaps (size p.start) (letters 0 (commands_in p.sites)) (sites_at_gaps (size p.start) p.sites is_p.sites)) (start_is over p.start)
          ∙ state_of_moving (comb_acts c) word (letters 0 (commands_in q.sites)) (leaves p.start, start_vector c p.start))

      rows : rows_from c (leaves p.start) (start_vector c p.start) (commands_in p.sites) ≡ rows_from c (leaves p.start) (start_vector c p.start) (commands_in q.sites)
      rows =
          rows_same (leaves p.start) (start_vector c p.start) (commands_in p.sites) (commands_in q.sites)
          (linked_measurements (size p.start) (commands_in p.sites) (commands_in q.sites) linked) states
