-- Worked values, on two qubits.
use Rattle.std.proofs.Common.{◌≡◌, ◌+◌, true, false, List, [], ◌∷◌, Some, refl}
use Rattle.std.specs.Prelude.{Ok, ◌==◌}
use Rattle.std.specs.declared.cmp.Ordering.TheVariants.{Less, Greater}
use Rattle.program_text.specs.Letters.{letters}
use Rattle.program_text.specs.declared.plan.Command.{Command}
use Rattle.program_text.specs.declared.plan.Command.TheVariants.{Braid, Raise, Measure, BraidWhen}
use Rattle.program_text.specs.declared.plan.Sign.TheVariants.{Plus, Minus}
use Rattle.program_text.specs.declared.letter.Letter.TheVariants.{Crossing, Charge, Tested, Still}
use Rattle.comb_laws.specs.Words.{word_state}
use Rattle.word_runs.specs.Runs.{run_of, start_word}
use Rattle.run_laws.specs.Meaning.{IsFaithful, StandsAlive}
use Rattle.run_laws.proofs.ExactLemmas.{exact_is_faithful}
use Rattle.run_laws.specs.Rows.{word_cmp, living_words, rows_of_plan, weighed, rows_among}
use Rattle.run_laws.specs.Schedules.{site_letters}
use Rattle.run_laws.specs.Timely.{is_known, is_timely, known_after}
use Rattle.run_laws.specs.Turns.{in_text, next_of, after_turn, turns, text_order}
use Rattle.run_laws.specs.TwoQubits.{Two, stands, two_acts, two_exact, two_faithful, two_nought, two_told, two_weight}

-- the two qubits are faithful with states of vectors that aren't zero
alive : IsFaithful two_told 2 two_acts (λ v. Unit {0}) two_nought (StandsAlive two_nought stands)
alive = exact_is_faithful two_told 2 two_acts (λ v. Unit {0}) two_nought stands two_faithful two_exact

-- Two sites: the first turns its qubit over and measures it; the second turns its own over where the first one's outcome
-- is 1, and measures it.
abbrev pub sites : List (List Command)
sites = (Braid 1 Plus ∷ Measure 1 ∷ []) ∷ (Raise 3 ∷ BraidWhen 3 Minus 0 1 ∷ Measure 3 ∷ []) ∷ []

-- the amplitudes 2 and 3 of the first qubit, and 5 and 0 of the second
abbrev pub start : Two
start = record { first = record { none = 2; one = 3 }; second = record { none = 5; one = 0 } }

places_count_on : site_letters 0 sites ≡ (Crossing 1 Plus ∷ Charge 1 0 ∷ []) ∷ (Still 3 ∷ Tested 3 Minus 0 1 ∷ Charge 3 1 ∷ []) ∷ []
places_count_on = refl

whole_text : in_text (site_letters 0 sites) ≡ letters 0 (in_text sites)
whole_text = refl

in_order : text_order (site_letters 0 sites) ≡ 0 ∷ 0 ∷ 1 ∷ 1 ∷ 1 ∷ []
in_order = refl

second_next : next_of 1 (site_letters 0 sites) ≡ Some (Still 3)
second_next = refl

second_left : after_turn 1 (site_letters 0 sites) ≡ (Crossing 1 Plus ∷ Charge 1 0 ∷ []) ∷ (Tested 3 Minus 0 1 ∷ Charge 3 1 ∷ []) ∷ []
second_left = refl

mixed_turns : turns (site_letters 0 sites) (0 ∷ 1 ∷ 0 ∷ 1 ∷ 1 ∷ []) ≡ Crossing 1 Plus ∷ Still 3 ∷ Charge 1 0 ∷ Tested 3 Minus 0 1 ∷ Charge 3 1 ∷ []
mixed_turns = refl

-- in the order of the text the outcome is there when it is tested, and before its measurement it isn't
timely_text : is_timely [] (letters 0 (in_text sites)) ≡ true
timely_text = refl

early_test : is_timely [] (turns (site_letters 0 sites) (1 ∷ 1 ∷ 0 ∷ 0 ∷ 1 ∷ [])) ≡ false
early_test = refl

places_known : known_after [] (letters 0 (in_text sites)) ≡ 1 ∷ 0 ∷ []
places_known = refl

known_place : is_known (1 ∷ 0 ∷ []) 0 ≡ true
known_place = refl

unknown_place : is_known (1 ∷ 0 ∷ []) 2 ≡ false
unknown_place = refl

-- with the outcome 1 the first qubit has 2 of 3 and 2, and the second is turned over
tested_vector : word_state two_acts (1 ∷ 1 ∷ []) (letters 0 (in_text sites)) start ≡ record { first = record { none = 0; one = 2 }; second = record { none = 0; one = 5 } }
tested_vector = refl

passed_vector : word_state two_acts (0 ∷ 0 ∷ []) (letters 0 (in_text sites)) start ≡ record { first = record { none = 3; one = 0 }; second = record { none = 5; one = 0 } }
passed_vector = refl

-- so two of the four words live
two_live : living_words 2 2 two_acts two_nought (letters 0 (in_text sites)) start ≡ (0 ∷ 0 ∷ []) ∷ (1 ∷ 1 ∷ []) ∷ []
two_live = refl

two_rows : rows_of_plan 2 2 two_acts two_weight (λ x. x == 0) (letters 0 (in_text sites)) start ≡ (0 ∷ 0 ∷ [], 15) ∷ (1 ∷ 1 ∷ [], 10) ∷ []
two_rows = refl

-- and the run ends with them, whatever the schedule
ends_in_text : run_of two_told 1 (letters 0 (in_text sites)) (start_word 2 (record { gap = 2; vector = start }))
    ≡ Ok (record { word = 0 ∷ 0 ∷ []; state = record { gap = 3; vector = record { first = record { none = 3; one = 0 }; second = record { none = 5; one = 0 } } } }
    ∷ record { word = 1 ∷ 1 ∷ []; state = record { gap = 3; vector = record { first = record { none = 0; one = 2 }; second = record { none = 0; one = 5 } } } } ∷ [])
ends_in_text = refl

ends_in_turns : run_of two_told 1 (turns (site_letters 0 sites) (1 ∷ 0 ∷ 0 ∷ 1 ∷ 1 ∷ [])) (start_word 2 (record { gap = 2; vector = start }))
    ≡ run_of two_told 1 (letters 0 (in_text sites)) (start_word 2 (record { gap = 2; vector = start }))
ends_in_turns = refl

-- Without the test the second site may be first: its outcome is at place 1 all the same, and the words are made in another
-- order.
abbrev free : List (List Command)
free = (Measure 1 ∷ []) ∷ (Measure 3 ∷ []) ∷ []

abbrev open_start : Two
open_start = record { first = record { none = 2; one = 3 }; second = record { none = 5; one = 7 } }

second_first : turns (site_letters 0 free) (1 ∷ 0 ∷ []) ≡ Charge 3 1 ∷ Charge 1 0 ∷ []
second_first = refl

ends_second_first : run_of two_told 1 (turns (site_letters 0 free) (1 ∷ 0 ∷ [])) (start_word 2 (record { gap = 1; vector = open_start }))
    ≡ Ok (record { word = 0 ∷ 0 ∷ []; state = record { gap = 1; vector = record { first = record { none = 2; one = 0 }; second = record { none = 5; one = 0 } } } }
    ∷ record { word = 1 ∷ 0 ∷ []; state = record { gap = 1; vector = record { first = record { none = 0; one = 3 }; second = record { none = 5; one = 0 } } } }
    ∷ record { word = 0 ∷ 1 ∷ []; state = record { gap = 1; vector = record { first = record { none = 2; one = 0 }; second = record { none = 0; one = 7 } } } }
    ∷ record { word = 1 ∷ 1 ∷ []; state = record { gap = 1; vector = record { first = record { none = 0; one = 3 }; second = record { none = 0; one = 7 } } } } ∷ [])
ends_second_first = refl

free_rows : rows_of_plan 2 2 two_acts two_weight (λ x. x == 0) (letters 0 (in_text free)) open_start
    ≡ (0 ∷ 0 ∷ [], 10) ∷ (0 ∷ 1 ∷ [], 14) ∷ (1 ∷ 0 ∷ [], 15) ∷ (1 ∷ 1 ∷ [], 21) ∷ []
free_rows = refl

-- the order of words is that of lists of labels
first_label_counts : word_cmp (0 ∷ 7 ∷ []) (1 ∷ 0 ∷ []) ≡ Less
first_label_counts = refl

then_the_next : word_cmp (1 ∷ 2 ∷ []) (1 ∷ 0 ∷ []) ≡ Greater
then_the_next = refl

-- a weight that is zero is no row
no_zero_rows : rows_among (λ x. x == 0) ((0 ∷ [], 4) ∷ (1 ∷ [], 0) ∷ (2 ∷ [], 6) ∷ []) ≡ (0 ∷ [], 4) ∷ (2 ∷ [], 6) ∷ []
no_zero_rows = refl

weights_in_order : weighed (λ x. Some (x + 1)) (record { word = 1 ∷ []; state = 4 } ∷ record { word = 0 ∷ []; state = 7 } ∷ []) ≡ Some ((1 ∷ [], 5) ∷ (0 ∷ [], 8) ∷ [])
weights_in_order = refl
