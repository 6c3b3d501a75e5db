-- The schedule of a number is legal, and is read.
use Rattle.std.proofs.Common.{◌≡◌, ℕ, zero, suc, ◌+◌, ◌<◌, List, [], ◌∷◌, ◌++◌, true, ◌==◌, map, length, refl, ap, sym, ◌∙◌, arith, codes, Ok}
use Rattle.std.specs.List.{AllByRecursion, count_by}
use Rattle.std.specs.Option.{option_to_list}
use Rattle.std.specs.Prelude.{slice_index_or}
use Rattle.std.proofs.lemmas.Bool.Decides.{nat_tests}
use Rattle.line_text.specs.Text.{Found, reading_of}
use Rattle.line_text.specs.Spelling.{ArePlainLines, IsPlainLine, counted, spelled}
use Rattle.line_text.proofs.SpellingLemmas.{found_again}
use Rattle.program_text.specs.Letters.{letter_at, letters, measurements, outcomes_of}
use Rattle.program_text.specs.Steps.{◌>>=◌}
use Rattle.program_text.specs.declared.plan.Command.{Command}
use Rattle.program_text.specs.declared.plan.Command.TheVariants.{Braid, Raise, Measure, BraidWhen}
use Rattle.program_text.specs.declared.letter.Letter.{Letter}
use Rattle.program_text.specs.declared.letter.Letter.TheVariants.{Crossing, Charge, Tested, Still}
use Rattle.run_laws.specs.Timely.{is_timely}
use Rattle.run_laws.specs.Turns.{after_turn, next_of, turns}
use Rattle.run_laws.proofs.Counts.{count_no, count_yes}
use Rattle.site_schedule.specs.Legal.{IsLegal, letters_in}
use Rattle.site_schedule.specs.Reading.{Said, Word, behind_header, said_in, schedule_of, turns_on, whole}
use Rattle.site_schedule.specs.Spelled.{name_of_site, schedule_lines as named_lines}
use Rattle.site_schedule.proofs.QueueLemmas.{length_letters}
use Rattle.site_schedule.proofs.SpelledLemmas.{schedules_again}
use Rattle.category_maker.specs.declared.commands.TheConstants.{COMMANDS}
use Rattle.category_maker.specs.MadeCategory.{group_fuses}
use Rattle.category_maker.specs.MadeProgram.{commands_from, made_program}
use Rattle.category_maker.specs.MadeSchedule.{made_schedule, made_turns, rounds_of, schedule_lines, turn_lines}
use Rattle.category_maker.proofs.ProgramLemmas.{IsUntested, made_well_formed, untested}
use Rattle.category_maker.proofs.RoundLemmas.{length-commands}

-- Letters without a test are timely, whatever their order.
abbrev IsFree : Letter → Type 0
IsFree (Crossing k sign) = Unit {0}
IsFree (Charge k place) = Unit {0}
IsFree (Tested k sign place label) = ⊥
IsFree (Still k) = Unit {0}

free_timely : (known : List ℕ) (ls : List Letter) → AllByRecursion IsFree ls → is_timely known ls ≡ true
free_timely known [] all = refl
free_timely known (Crossing k sign ∷ ls) all = free_timely known ls all.1
free_timely known (Charge k place ∷ ls) all = free_timely (place ∷ known) ls all.1
free_timely known (Tested k sign place label ∷ ls) all = absurd all.0
free_timely known (Still k ∷ ls) all = free_timely known ls all.1

letter_free : (place : ℕ) (c : Command) → IsUntested c → IsFree (letter_at place c)
letter_free place (Braid gap sign) is = tt
letter_free place (Raise gap) is = tt
letter_free place (Measure gap) is = tt
letter_free place (BraidWhen gap sign tested label) is = absurd is

letters_free : (place : ℕ) (cs : List Command) → AllByRecursion IsUntested cs → AllByRecursion IsFree (letters place cs)
letters_free place [] all = tt
letters_free place (c ∷ cs) all = (letter_free place c all.0, letters_free (place + outcomes_of c) cs all.1)

abbrev AreFree : List (List Letter) → Type 0
AreFree sites = AllByRecursion (AllByRecursion IsFree) sites

next_free : (i : ℕ) (sites : List (List Letter)) → AreFree sites → AllByRecursion IsFree (option_to_list (next_of i sites))
next_free i [] all = tt
next_free zero ([] ∷ sites) all = tt
next_free zero ((l ∷ ls) ∷ sites) all = (all.0.0, tt)
next_free (suc i) (ls ∷ sites) all = next_free i sites all.1

after_free : (i : ℕ) (sites : List (List Letter)) → AreFree sites → AreFree (after_turn i sites)
after_free i [] all = tt
after_free zero ([] ∷ sites) all = all
after_free zero ((l ∷ ls) ∷ sites) all = (all.0.1, all.1)
after_free (suc i) (ls ∷ sites) all = (all.0, after_free i sites all.1)

free_append : (xs ys : List Letter) → AllByRecursion IsFree xs → AllByRecursion IsFree ys → AllByRecursion IsFree (xs ++ ys)
free_append [] ys p q = q
free_append (x ∷ xs) ys p q = (p.0, free_append xs ys p.1 q)

turns_free : (sites : List (List Letter)) (schedule : List ℕ) → AreFree sites → AllByRecursion IsFree (turns sites schedule)
turns_free sites [] all = tt
turns_free sites (i ∷ rest) all = free_append (option_to_list (next_of i sites)) (turns (after_turn i sites) rest) (next_free i sites all) (turns_free (after_turn i sites) rest (after_free i sites all))

-- Each of two sites has a turn in each round.
count_first : (rounds : ℕ) → count_by (λ j. j == 0) (rounds_of rounds) ≡ rounds
count_first zero = refl
count_first (suc rounds) = count_yes (λ j. j == 0) 0 (1 ∷ rounds_of rounds) refl ∙ ap suc (count_no (λ j. j == 0) 1 (rounds_of rounds) refl ∙ count_first rounds)

count_second : (rounds : ℕ) → count_by (λ j. j == 1) (rounds_of rounds) ≡ rounds
count_second zero = refl
count_second (suc rounds) = count_no (λ j. j == 1) 0 (1 ∷ rounds_of rounds) refl ∙ count_yes (λ j. j == 1) 1 (rounds_of rounds) refl ∙ ap suc (count_second rounds)

count_other : (i rounds : ℕ) → count_by (λ j. j == suc (suc i)) (rounds_of rounds) ≡ 0
count_other i zero = refl
count_other i (suc rounds) = count_no (λ j. j == suc (suc i)) 0 (1 ∷ rounds_of rounds) (grind (arith, nat_tests)) ∙ count_no (λ j. j == suc (suc i)) 1 (rounds_of rounds) (grind (arith, nat_tests)) ∙ count_other i rounds

pub made_legal : (n : ℕ) → IsLegal (made_program n) made_turns
unfolding made_turns
made_legal n = record {
  whole = by_site;
  timely = free_timely [] (turns (letters_in (made_program n)) (rounds_of COMMANDS)) (turns_free (letters_in (made_program n)) (rounds_of COMMANDS) (letters_free 0 (commands_from 1 COMMANDS) (untested 1 COMMANDS), (letters_free (0 + measurements (commands_from 1 COMMANDS)) (commands_from 9 COMMANDS) (untested 9 COMMANDS), tt)));
}
  where
    by_site : (i : ℕ) → count_by (λ j. j == i) (rounds_of COMMANDS) ≡ length (slice_index_or (letters_in (made_program n)) i [])
    by_site zero = count_first COMMANDS ∙ sym (length_letters 0 (commands_from 1 COMMANDS) ∙ length-commands 1 COMMANDS)
    by_site (suc zero) = count_second COMMANDS ∙ sym (length_letters (0 + measurements (commands_from 1 COMMANDS)) (commands_from 9 COMMANDS) ∙ length-commands 9 COMMANDS)
    by_site (suc (suc i)) = count_other i COMMANDS

-- The text says the names of the turns, as the text with one name a line does.
abbrev both_names : ℕ → List Said
both_names zero = []
both_names (suc rounds) = Word (codes "A") ∷ Word (codes "B") ∷ both_names rounds

said_two : (number rounds : ℕ) → said_in (counted number (turn_lines rounds)) ≡ both_names rounds
said_two number zero = refl
said_two number (suc rounds) = ap (λ said. Word (codes "A") ∷ Word (codes "B") ∷ said) (said_two (number + 1) rounds)

abbrev one_name : ℕ → ℕ → List (List ℕ)
one_name n i = name_of_site (made_program n).sites i ∷ []

said_one : (n number rounds : ℕ) → said_in (counted number (map (one_name n) (rounds_of rounds))) ≡ both_names rounds
said_one n number zero = refl
said_one n number (suc rounds) = ap (λ said. Word (codes "A") ∷ Word (codes "B") ∷ said) (said_one n ((number + 1) + 1) rounds)

header_line : IsPlainLine (codes "schedule" ∷ codes "1" ∷ [])
header_line = record { plain = refl; counts = refl; short = omega arith }

two_plain : (rounds : ℕ) → ArePlainLines (turn_lines rounds)
two_plain zero = tt
two_plain (suc rounds) = (record { plain = refl; counts = refl; short = omega arith }, two_plain rounds)

one_plain : (n rounds : ℕ) → ArePlainLines (map (one_name n) (rounds_of rounds))
one_plain n zero = tt
one_plain n (suc rounds) = (record { plain = refl; counts = refl; short = omega arith }, (record { plain = refl; counts = refl; short = omega arith }, one_plain n rounds))

module _ (n : ℕ) (rounds : ℕ) where
  said_of : (lines : List (List (List ℕ))) → ArePlainLines lines → said_in (counted 1 lines) ≡ both_names rounds
      → schedule_of (made_program n) (spelled ((codes "schedule" ∷ codes "1" ∷ []) ∷ lines)) ≡ (turns_on (made_program n) [] (both_names rounds) >>= λ (turns : List ℕ). whole (made_program n) turns)
  unfolding schedule_of
  said_of lines plain said =
      let p = made_program n in
      let text = spelled ((codes "schedule" ∷ codes "1" ∷ []) ∷ lines) in
      ap (λ (f : List Found). behind_header (reading_of 0 text).count f >>= λ (body : List Found). turns_on p [] (said_in body) >>= λ (turns : List ℕ). whole p turns) (found_again 0 ((codes "schedule" ∷ codes "1" ∷ []) ∷ lines) (header_line, plain))
      ∙ ap (λ (said : List Said). turns_on p [] said >>= λ (turns : List ℕ). whole p turns) said

  same_said : schedule_of (made_program n) (spelled (schedule_lines rounds)) ≡ schedule_of (made_program n) (spelled (named_lines (made_program n) (rounds_of rounds)))
  same_said = said_of (turn_lines rounds) (two_plain rounds) (said_two 1 rounds) ∙ sym (said_of (map (one_name n) (rounds_of rounds)) (one_plain n rounds) (said_one n 1 rounds))

pub made_read : (n : ℕ) → 0 < n → schedule_of (made_program n) made_schedule ≡ Ok made_turns
unfolding made_schedule made_turns
made_read n some =
    same_said n COMMANDS
    ∙ schedules_again (made_program n) (rounds_of COMMANDS) (record { fuse = group_fuses n; count = n; program = made_well_formed n some }) (made_legal n)
