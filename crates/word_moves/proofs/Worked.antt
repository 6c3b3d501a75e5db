-- Worked values of the definitions, on four strands.
use Rattle.std.proofs.Common.{◌≡◌, [], ◌∷◌, List, Some, None, refl}
use Rattle.tree_shapes.specs.Labelled.{Labelled, Strand, Joined}
use Rattle.program_text.specs.Program.{Program}
use Rattle.program_text.specs.declared.plan.Command.{Command}
use Rattle.program_text.specs.declared.plan.Command.TheVariants.{Braid, Raise, Measure}
use Rattle.program_text.specs.declared.plan.Sign.TheVariants.{Plus, Minus}
use Rattle.program_text.specs.declared.letter.Letter.{Letter}
use Rattle.program_text.specs.declared.letter.Letter.TheVariants.{Crossing, Charge, Tested}
use Rattle.word_moves.specs.declared.moves.BraidMove.TheVariants.{Cancel, Insert, Far, Yb}
use Rattle.word_moves.specs.declared.moves.Verdict.TheVariants.{Linked, StartDiffers, NoMove, EndDiffers}
use Rattle.word_moves.specs.Moves.{moved, moving_letters}
use Rattle.word_moves.specs.Verdicts.{moved_by, verdict_of}

abbrev ends : Letter
ends = Charge 2 0

turned_up : moved 4 (Yb 1) (Crossing 1 Plus ∷ Crossing 2 Plus ∷ Crossing 1 Plus ∷ ends ∷ []) ≡ Some (Crossing 2 Plus ∷ Crossing 1 Plus ∷ Crossing 2 Plus ∷ ends ∷ [])
turned_up = refl

turned_down : moved 4 (Yb 2) (ends ∷ Crossing 3 Minus ∷ Crossing 2 Minus ∷ Crossing 3 Minus ∷ []) ≡ Some (ends ∷ Crossing 2 Minus ∷ Crossing 3 Minus ∷ Crossing 2 Minus ∷ [])
turned_down = refl

mixed_middle : moved 4 (Yb 1) (Crossing 1 Plus ∷ Crossing 2 Minus ∷ Crossing 1 Plus ∷ []) ≡ None
mixed_middle = refl

mixed_last : moved 4 (Yb 1) (Crossing 1 Plus ∷ Crossing 2 Plus ∷ Crossing 1 Minus ∷ []) ≡ None
mixed_last = refl

no_triple : moved 4 (Yb 1) (Crossing 1 Plus ∷ Crossing 2 Plus ∷ Crossing 3 Plus ∷ []) ≡ None
no_triple = refl

apart_triple : moved 4 (Yb 1) (Crossing 1 Plus ∷ Crossing 3 Plus ∷ Crossing 1 Plus ∷ []) ≡ None
apart_triple = refl

two_letters : moved 4 (Yb 1) (Crossing 1 Plus ∷ Crossing 2 Plus ∷ []) ≡ None
two_letters = refl

far_up : moved 4 (Far 1) (Crossing 1 Plus ∷ Crossing 3 Minus ∷ ends ∷ []) ≡ Some (Crossing 3 Minus ∷ Crossing 1 Plus ∷ ends ∷ [])
far_up = refl

far_down : moved 4 (Far 2) (ends ∷ Crossing 3 Minus ∷ Crossing 1 Plus ∷ []) ≡ Some (ends ∷ Crossing 1 Plus ∷ Crossing 3 Minus ∷ [])
far_down = refl

near_up : moved 4 (Far 1) (Crossing 1 Plus ∷ Crossing 2 Minus ∷ []) ≡ None
near_up = refl

near_down : moved 4 (Far 1) (Crossing 2 Plus ∷ Crossing 1 Plus ∷ []) ≡ None
near_down = refl

same_gap : moved 4 (Far 1) (Crossing 2 Plus ∷ Crossing 2 Plus ∷ []) ≡ None
same_gap = refl

cancelled_up : moved 4 (Cancel 2) (ends ∷ Crossing 1 Plus ∷ Crossing 1 Minus ∷ ends ∷ []) ≡ Some (ends ∷ ends ∷ [])
cancelled_up = refl

cancelled_down : moved 4 (Cancel 1) (Crossing 1 Minus ∷ Crossing 1 Plus ∷ []) ≡ Some []
cancelled_down = refl

equal_signs : moved 4 (Cancel 1) (Crossing 1 Plus ∷ Crossing 1 Plus ∷ []) ≡ None
equal_signs = refl

other_gap : moved 4 (Cancel 1) (Crossing 1 Plus ∷ Crossing 2 Minus ∷ []) ≡ None
other_gap = refl

inserted_first : moved 4 (Insert 1 3 Minus) (ends ∷ []) ≡ Some (Crossing 3 Minus ∷ Crossing 3 Plus ∷ ends ∷ [])
inserted_first = refl

inserted_last : moved 4 (Insert 2 1 Plus) (ends ∷ []) ≡ Some (ends ∷ Crossing 1 Plus ∷ Crossing 1 Minus ∷ [])
inserted_last = refl

inserted_beyond : moved 4 (Insert 3 1 Plus) (ends ∷ []) ≡ None
inserted_beyond = refl

inserted_before : moved 4 (Insert 0 1 Plus) (ends ∷ []) ≡ None
inserted_before = refl

no_gap : moved 4 (Insert 1 0 Plus) [] ≡ None
no_gap = refl

gap_beyond : moved 4 (Insert 1 4 Plus) [] ≡ None
gap_beyond = refl

-- a letter with a test isn't moved, nor is one moved over it
abbrev tested : List Letter
tested = Crossing 1 Plus ∷ Tested 3 Plus 0 1 ∷ Crossing 1 Plus ∷ []

tested_stays : moved 4 (Far 1) tested ≡ None
tested_stays = refl

tested_stays_first : moved 4 (Far 2) tested ≡ None
tested_stays_first = refl

tested_not_turned : moved 4 (Yb 1) (Crossing 1 Plus ∷ Tested 2 Plus 0 1 ∷ Crossing 1 Plus ∷ []) ≡ None
tested_not_turned = refl

tested_not_cancelled : moved 4 (Cancel 1) (Tested 2 Plus 0 1 ∷ Crossing 2 Minus ∷ []) ≡ None
tested_not_cancelled = refl

one_by_one : moved_by 4 (Insert 1 3 Minus ∷ Far 2 ∷ []) (Crossing 1 Plus ∷ []) ≡ Some (Crossing 3 Minus ∷ Crossing 1 Plus ∷ Crossing 3 Plus ∷ [])
one_by_one = refl

-- programs of one site
abbrev program_from : Labelled → List Command → Program
program_from start commands = record {
  version = 1;
  start = start;
  sites = record { name = []; first = 1; last = 4; commands = commands } ∷ [];
  outcomes = [];
}

abbrev start_with : Labelled → Labelled
start_with pair = Joined (Joined (Strand 1) (Strand 1) 0) pair 0

abbrev pairs : List Command → Program
pairs commands = program_from (start_with (Joined (Strand 1) (Strand 1) 0)) commands

raises_go : moving_letters (pairs (Braid 1 Plus ∷ Measure 3 ∷ Raise 2 ∷ Measure 1 ∷ [])) ≡ Crossing 1 Plus ∷ Charge 3 0 ∷ Charge 1 1 ∷ []
raises_go = refl

linked_pairs : verdict_of (pairs (Braid 1 Plus ∷ Raise 2 ∷ Braid 3 Plus ∷ Measure 1 ∷ [])) (pairs (Braid 3 Plus ∷ Braid 1 Plus ∷ Measure 1 ∷ Raise 3 ∷ [])) (Far 1 ∷ []) ≡ Linked
linked_pairs = refl

start_of_label : verdict_of (pairs []) (program_from (start_with (Joined (Strand 1) (Strand 1) 1)) []) [] ≡ StartDiffers
start_of_label = refl

start_of_shape : verdict_of (pairs []) (program_from (start_with (Strand 0)) []) [] ≡ StartDiffers
start_of_shape = refl

second_impossible : verdict_of (pairs (Braid 1 Plus ∷ Braid 3 Plus ∷ [])) (pairs []) (Far 1 ∷ Far 2 ∷ Far 0 ∷ []) ≡ NoMove 2
second_impossible = refl

second_differs : verdict_of (pairs (Braid 1 Plus ∷ Braid 3 Plus ∷ [])) (pairs (Braid 1 Plus ∷ Braid 3 Minus ∷ [])) [] ≡ EndDiffers 2
second_differs = refl

missing_differs : verdict_of (pairs (Braid 1 Plus ∷ [])) (pairs (Braid 1 Plus ∷ Raise 2 ∷ Braid 3 Minus ∷ [])) [] ≡ EndDiffers 2
missing_differs = refl

spare_differs : verdict_of (pairs (Braid 1 Plus ∷ Braid 3 Minus ∷ [])) (pairs (Braid 1 Plus ∷ [])) [] ≡ EndDiffers 2
spare_differs = refl
