-- The stated evaluation at small values: an engine whose state is a number. An exchange adds 1, or 10 where it is negative,
-- up to 99; a raise adds 100; the parts are the number itself with the charge 0 and its double with the charge 1; there are
-- as many amplitudes as the number says.
use Rattle.std.proofs.Common.{◌≡◌, ℕ, ◌+◌, ◌*◌, true, List, [], ◌∷◌, Option, Some, None, refl}
use Rattle.std.specs.Prelude.{if◌then◌else◌, nat_lt, replicate, Ok, Err}
use Rattle.program_text.specs.declared.letter.Letter.TheVariants.{Crossing, Charge, Tested, Still}
use Rattle.program_text.specs.declared.plan.Sign.TheVariants.{Plus, Minus}
use Rattle.word_runs.specs.Told.{Told}
use Rattle.word_runs.specs.Runs.{run_of, start_word, limited}
use Rattle.word_runs.specs.declared.engine.Step.{Step}
use Rattle.word_runs.specs.declared.engine.Step.TheVariants.{Raise, Exchange}
use Rattle.word_runs.specs.declared.fault.RunStop.TheVariants.{Overflow, Branches, Wide}

abbrev more : Step → ℕ → ℕ
more (Raise k) s = s + 100
more (Exchange k Plus) s = s + 1
more (Exchange k Minus) s = s + 10

abbrev stepped : Step → ℕ → Option ℕ
stepped step s = if nat_lt s 100 then Some (more step s) else None

abbrev told : List ℕ → Told ℕ (Unit {0})
told path = record {
  strands = 4;
  shape = λ s. tt;
  turned = λ k t. t;
  path = λ k t. path;
  is_pair = λ k t. true;
  stepped = stepped;
  parts = λ k s. if nat_lt s 200 then Some ((0, s) ∷ (1, 2 * s) ∷ []) else None;
  entries = λ s. s;
}

-- outcomes stand at the places of their measurements, whatever the order of the turns
outcomes_by_place : run_of (told []) 1 (Crossing 1 Plus ∷ Charge 2 1 ∷ Charge 1 0 ∷ []) (start_word 2 3)
    ≡ Ok (record { word = 0 ∷ 0 ∷ []; state = 4 } ∷ record { word = 1 ∷ 0 ∷ []; state = 8 } ∷ record { word = 0 ∷ 1 ∷ []; state = 8 } ∷ record { word = 1 ∷ 1 ∷ []; state = 16 } ∷ [])
outcomes_by_place = refl

-- a test is of its place and its label; words that fail it stay
tested_words : run_of (told []) 1 (Charge 1 0 ∷ Tested 2 Minus 0 1 ∷ []) (start_word 1 3) ≡ Ok (record { word = 0 ∷ []; state = 3 } ∷ record { word = 1 ∷ []; state = 16 } ∷ [])
tested_words = refl

-- a turn raises each gap of the path before its own step
raised_first : run_of (told (2 ∷ [])) 1 (Charge 1 0 ∷ []) (start_word 1 7) ≡ Ok (record { word = 0 ∷ []; state = 107 } ∷ record { word = 1 ∷ []; state = 214 } ∷ [])
raised_first = refl

-- an item that doesn't fit stops in its turn, also where one live word alone has it, and in the steps of a path
stops_in_turn : run_of (told []) 1 (Still 1 ∷ Crossing 1 Plus ∷ []) (start_word 0 3) ≡ Err (Overflow 2)
stops_in_turn = refl

one_word_stops : run_of (told []) 5 (Charge 1 0 ∷ Crossing 1 Plus ∷ []) (start_word 1 60) ≡ Err (Overflow 6)
one_word_stops = refl

path_stops : run_of (told (1 ∷ 2 ∷ [])) 1 (Crossing 3 Plus ∷ []) (start_word 0 3) ≡ Err (Overflow 1)
path_stops = refl

split_stops : run_of (told []) 1 (Still 1 ∷ Charge 1 0 ∷ []) (start_word 1 150) ≡ Err (Overflow 1)
split_stops = refl

-- an engine without parts, by a number of amplitudes
abbrev counting : ℕ → Told ℕ (Unit {0})
counting n = record {
  strands = 2;
  shape = λ s. tt;
  turned = λ k t. t;
  path = λ k t. [];
  is_pair = λ k t. true;
  stepped = λ step s. Some s;
  parts = λ k s. Some [];
  entries = λ s. n;
}

-- the limits themselves are allowed; the live words come first
as_many_words : limited (counting 0) 3 (replicate 4096 (record { word = []; state = 0 })) ≡ Ok (replicate 4096 (record { word = []; state = 0 }))
as_many_words = refl

too_many_words : limited (counting 70000) 3 (replicate 4097 (record { word = []; state = 0 })) ≡ Err (Branches 3 4097)
too_many_words = refl

as_wide : run_of (counting 32768) 3 (Still 1 ∷ []) (record { word = []; state = 0 } ∷ record { word = []; state = 0 } ∷ [])
    ≡ Ok (record { word = []; state = 0 } ∷ record { word = []; state = 0 } ∷ [])
as_wide = refl

too_wide : run_of (counting 32769) 3 (Still 1 ∷ []) (record { word = []; state = 0 } ∷ record { word = []; state = 0 } ∷ []) ≡ Err (Wide 3 65538)
too_wide = refl

-- a count stands still at its greatest number
counted_to_the_end : run_of (counting 5000000000) 3 (Still 1 ∷ []) (record { word = []; state = 0 } ∷ []) ≡ Err (Wide 3 4294967295)
counted_to_the_end = refl
