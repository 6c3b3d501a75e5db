-- Worked values, on two qubits and on numbers, and one run that meets every premise of the law of outcomes.
use Rattle.std.proofs.Common.{◌≡◌, ℕ, zero, suc, ◌+◌, List, [], ◌∷◌, Option, Some, None, refl, arith}
use Rattle.std.specs.Prelude.{if◌then◌else◌, ◌==◌, IsSortedByKey, Result, Ok, Err}
use Rattle.comb_laws.specs.Plans.{Outcomes}
use Rattle.std.proofs.lemmas.List.Sorted.{IsPermutation-refl}
use Rattle.program_text.specs.Letters.{letters}
use Rattle.program_text.specs.declared.letter.Letter.{Letter}
use Rattle.program_text.specs.declared.plan.Command.{Command}
use Rattle.program_text.specs.declared.plan.Command.TheVariants.{Measure}
use Rattle.word_runs.specs.Runs.{Live, ◌>>>◌, run_of, start_word}
use Rattle.word_runs.specs.declared.fault.RunStop.{RunStop}
use Rattle.word_runs.specs.declared.fault.RunStop.TheVariants.{Overflow}
use Rattle.run_laws.specs.Meaning.{words_of}
use Rattle.run_laws.specs.Rows.{word_cmp}
use Rattle.run_laws.proofs.EndMeaning.{text_ends}
use Rattle.run_laws.specs.Schedules.{site_letters}
use Rattle.run_laws.specs.TwoQubits.{Pair, stands, two_acts, two_faithful, two_nought, two_rising, two_shapes, two_told, two_weighing, two_weight}
use Rattle.run_laws.specs.Turns.{in_text, turns}
use Rattle.run_laws.proofs.Worked.{sites, start}
use Rattle.outcome_rows.specs.Commands.{AreRunnable}
use Rattle.outcome_rows.specs.Ends.{AreOutcomesOf, weighed_ends}
use Rattle.outcome_rows.specs.Evaluated.{ends_from, evaluation_of, rows_at}
use Rattle.outcome_rows.specs.WordOrder.{AreSorted, in_word_order}
use Rattle.outcome_rows.specs.Outcomes.{outcomes_of_plan}
use Rattle.outcome_rows.proofs.OutcomeLemmas.{ends_in_outcomes}
use Rattle.outcome_rows.proofs.WordLemmas.{sorted_in_word_order}

abbrev begun : Pair
begun = record { gap = 2; vector = start }

abbrev weigh : Pair → Option ℕ
weigh s = Some (two_weight s.vector)

-- the first qubit is turned over and measured, and the second is turned over where the outcome was 1, and measured: of
-- (2 + 3) 5 the word 00 has 3 times 5, and 11 has 2 times 5
abbrev found : Outcomes ℕ
found = record { total = 25; rows = (0 ∷ 0 ∷ [], 15) ∷ (1 ∷ 1 ∷ [], 10) ∷ [] }

evaluated : evaluation_of two_told weigh (λ x. x == 0) begun (in_text sites) ≡ Ok found
evaluated = refl

runnable : AreRunnable two_told (in_text sites)
runnable = record {
  gaps = (record { low = omega arith; high = omega arith }, (record { low = omega arith; high = omega arith }, (record { low = omega arith; high = omega arith }, (record { low = omega arith; high = omega arith }, (record { low = omega arith; high = omega arith }, tt)))));
  tests = (tt, (tt, (tt, (omega arith, (tt, tt)))));
  few = omega arith;
  timely = refl;
}

-- so the law speaks of it
of_the_plan : found ≡ outcomes_of_plan 2 two_acts two_weight (λ x. x == 0) (in_text sites) start
of_the_plan =
    ends_in_outcomes two_told 2 two_acts (λ v. Unit {0}) two_nought stands weigh two_weight (λ x. x == 0) two_shapes two_faithful two_weighing
    two_rising (in_text sites) begun start found runnable.gaps runnable.timely tt refl evaluated

-- a total that doesn't fit stops in turn 0, and a word's weight behind the five turns
total_too_large : evaluation_of two_told (λ s. if s.gap == 2 then None else weigh s) (λ x. x == 0) begun (in_text sites) ≡ Err (Overflow 0)
total_too_large = refl

weight_too_large : evaluation_of two_told (λ s. if s.gap == 3 then None else weigh s) (λ x. x == 0) begun (in_text sites) ≡ Err (Overflow 6)
weight_too_large = refl

-- the second site takes its first turn before the first site: the same live words, and the same stops
abbrev mixed : List Letter
mixed = turns (site_letters 0 sites) (1 ∷ 0 ∷ 0 ∷ 1 ∷ 1 ∷ [])

mixed_ends : weighed_ends two_told weigh 2 mixed begun ≡ ends_from two_told begun (in_text sites)
mixed_ends = refl

mixed_stops : ((weighed_ends two_told (λ s. if s.gap == 2 then None else weigh s) 2 mixed begun ≡ Err (Overflow 0)) × (weighed_ends two_told (λ s. if s.gap == 3 then None else weigh s) 2 mixed begun ≡ Err (Overflow 6)))
mixed_stops = (refl, refl)

-- its outcomes, and that the live words stand in word order
abbrev mixed_live : List (Live Pair)
mixed_live =
    record { word = 0 ∷ 0 ∷ []; state = record { gap = 3; vector = record { first = record { none = 3; one = 0 }; second = record { none = 5; one = 0 } } } }
    ∷ record { word = 1 ∷ 1 ∷ []; state = record { gap = 3; vector = record { first = record { none = 0; one = 2 }; second = record { none = 0; one = 5 } } } }
    ∷ []

in_order : AreSorted mixed_live mixed_live
in_order = record { permutation = IsPermutation-refl mixed_live; order = sorted }
  where
    sorted : IsSortedByKey (λ (l : Live Pair). l.word) word_cmp mixed_live
    sorted zero e low high = refl
    sorted (suc k) e low high = absurd (omega arith)

mixed_outcomes : AreOutcomesOf two_told weigh (λ x. x == 0) 2 mixed begun found
mixed_outcomes = record {
  total = refl;
  rows = record {
    live = mixed_live;
    ends = refl;
    rows = record { sorted = mixed_live; permutation = in_order.permutation; order = in_order.order; all = found.rows; fit = refl; are = refl };
  };
}

mixed_in_order : mixed_live ≡ in_word_order 2 2 mixed_live
mixed_in_order =
    sorted_in_word_order 2 two_acts (λ v. Unit {0}) two_nought stands 2 (letters 0 (in_text sites)) start mixed_live mixed_live
    (text_ends two_told two_shapes 2 two_acts (λ v. Unit {0}) two_nought stands two_faithful (in_text sites) begun start mixed_live runnable.gaps runnable.timely tt refl refl) in_order

-- where two sites measure and the second is first, its outcomes come first among the live words as they are made, and are put
-- in order
abbrev both : List (List Command)
both = (Measure 1 ∷ []) ∷ (Measure 3 ∷ []) ∷ []

abbrev both_start : Pair
both_start = record { gap = 2; vector = record { first = record { none = 2; one = 3 }; second = record { none = 5; one = 7 } } }

abbrev words_by : (List (Live Pair) → List (Live Pair)) → Result (List (List ℕ)) RunStop
words_by order = run_of two_told 1 (turns (site_letters 0 both) (1 ∷ 0 ∷ [])) (start_word 2 both_start) >>> λ live. Ok (words_of (order live))

as_made : words_by (λ live. live) ≡ Ok ((0 ∷ 0 ∷ []) ∷ (1 ∷ 0 ∷ []) ∷ (0 ∷ 1 ∷ []) ∷ (1 ∷ 1 ∷ []) ∷ [])
as_made = refl

put_in_order : words_by (in_word_order 2 2) ≡ Ok ((0 ∷ 0 ∷ []) ∷ (0 ∷ 1 ∷ []) ∷ (1 ∷ 0 ∷ []) ∷ (1 ∷ 1 ∷ []) ∷ [])
put_in_order = refl

-- a weight that is zero makes no row, and one that doesn't fit none at all
no_zero_row : rows_at (λ x. Some (x + 1)) (λ x. x == 5) (record { word = 0 ∷ []; state = 7 } ∷ record { word = 1 ∷ []; state = 4 } ∷ record { word = 2 ∷ []; state = 0 } ∷ [])
    ≡ Some ((0 ∷ [], 8) ∷ (2 ∷ [], 1) ∷ [])
no_zero_row = refl

one_too_large : rows_at (λ x. if x == 4 then None else Some x) (λ x. x == 0) (record { word = 0 ∷ []; state = 7 } ∷ record { word = 1 ∷ []; state = 4 } ∷ []) ≡ None
one_too_large = refl
