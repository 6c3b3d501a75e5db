-- Worked values: on symbols with numbers of their own at some indices and one elsewhere, and on the Fibonacci category.
-- The expected values were worked out by hand from the listed numbers.
use Rattle.std.specs.Prelude.{◌≡◌, ◌+ℤ◌, ℕ, List, true, [], ◌∷◌, Some, None, nat_abs, nat_lt, pos, negsuc, refl}
use Rattle.ring_laws.specs.Ring.{Ring}
use Rattle.symbol_table.proofs.Fib.{Whole5, conjugate5, fib, held5, num, numbered, plus5, ring5, times5, whole}
use Rattle.symbol_table.specs.Symbols.{Symbols, symbols_of}
use Rattle.tree_shapes.specs.Labelled.{Labelled, Strand, Joined, leaves, node_labels}
use Rattle.tree_shapes.specs.Outlines.{Outline, Tip, Branch, outline_of, with_labels}
use Rattle.recouple.specs.Rotations.{after, before, rotation_of}
use Rattle.recouple.specs.States.{State, comb, raise_of, stated_raise}
use Rattle.recouple.specs.Targets.{keys_of, row_of, targets_of}
use Rattle.recouple.specs.declared.rotation.Rotation.{Rotation}
use Rattle.recouple.specs.declared.rotation.Spot.TheVariants.{AtStrand, AtGap}

abbrev some : Symbols Whole5
some = symbols_of ring5 held5 numbered

abbrev two_left : Outline
two_left = Branch (Branch Tip Tip) Tip

abbrev two_right : Outline
two_right = Branch Tip (Branch Tip Tip)

-- a left child under its parent, and a right child
abbrev from_the_left : Rotation
from_the_left = record { node = 1; parent = 2; first = AtStrand 0; second = AtStrand 1; third = AtStrand 2 }

abbrev from_the_right : Rotation
from_the_right = record { node = 2; parent = 1; first = AtStrand 0; second = AtStrand 1; third = AtStrand 2 }

rotations : ((rotation_of two_left 1 ≡ Some from_the_left) × (rotation_of two_right 2 ≡ Some from_the_right) × (rotation_of two_left 2 ≡ None))
rotations = (refl, refl, refl)

-- subtrees that are nodes
deeper : rotation_of (Branch (Branch (Branch Tip Tip) (Branch Tip Tip)) (Branch Tip Tip)) 2
    ≡ Some (record { node = 2; parent = 4; first = AtGap 1; second = AtGap 3; third = AtGap 5 })
deeper = refl

-- the node's old label 9 goes where the new key's label of the node stands, and back
keys : ((before from_the_left (3 ∷ 4 ∷ []) 9 ≡ 9 ∷ 3 ∷ []) × (after from_the_left (9 ∷ 3 ∷ []) 4 ≡ 3 ∷ 4 ∷ []))
keys = (refl, refl)

-- of three Fibonacci strands: from total charge t to both labels, from total charge 1 to t alone
abbrev one_each : List (List ℕ × Whole5)
one_each = ((0 ∷ 1 ∷ []), whole 1) ∷ ((1 ∷ 0 ∷ []), whole 1) ∷ []

targets : ((row_of fib (1 ∷ 1 ∷ 1 ∷ []) from_the_left (1 ∷ 0 ∷ []) ≡ (0 ∷ 1 ∷ []) ∷ []) × (targets_of fib (1 ∷ 1 ∷ 1 ∷ []) from_the_left one_each ≡ (1 ∷ 0 ∷ []) ∷ (1 ∷ 1 ∷ []) ∷ (0 ∷ 1 ∷ []) ∷ []))
targets = (refl, refl)

-- a source that is the second of these amplitudes
of_the_second : keys_of from_the_left one_each (record { order = 0; place = 1; from = 1; to = 1 } ∷ []) ≡ (0 ∷ 1 ∷ []) ∷ []
of_the_second = refl

-- three keys that differ at the node's label
abbrev on_left : State Whole5
on_left = record {
  strands = 1 ∷ 2 ∷ 0 ∷ [];
  shape = two_left;
  amps = ((0 ∷ 1 ∷ []), whole 12) ∷ ((1 ∷ 1 ∷ []), whole 16) ∷ ((2 ∷ 1 ∷ []), whole 18) ∷ [];
}

-- F(1,2,0,1;t,2) is 2, 3 and 1
over_by_f : raise_of some 1 on_left (1 ∷ 2 ∷ []) ≡ whole 90
over_by_f = refl

over_by_f_stated : stated_raise some 1 on_left (1 ∷ 2 ∷ []) ≡ Some (whole 90)
over_by_f_stated = refl

top_stays : raise_of some 2 on_left (1 ∷ 1 ∷ []) ≡ whole 16
top_stays = refl

abbrev on_right : State Whole5
on_right = record {
  strands = 1 ∷ 2 ∷ 0 ∷ [];
  shape = two_right;
  amps = ((1 ∷ 0 ∷ []), whole 12) ∷ ((1 ∷ 1 ∷ []), whole 16) ∷ ((1 ∷ 2 ∷ []), whole 18) ∷ [];
}

-- H(1,2,0,1;t,0) is 23, 23 and 46
back_by_h : raise_of some 2 on_right (0 ∷ 1 ∷ []) ≡ whole 1472
back_by_h = refl

-- a ring whose sums have to stay below 80: of 24, 72 and 90 the last doesn't fit
abbrev tight : Ring Whole5
tight = record {
  member = λ x. true;
  zero = ring5.zero;
  one = ring5.one;
  sum = plus5;
  product = times5;
  negative = ring5.negative;
  conjugate = conjugate5;
  sum_fits = λ x y. nat_lt (nat_abs (x.c0 +ℤ y.c0)) 80;
  product_fits = λ x y. true;
  conjugate_fits = λ x. true;
}

stops : stated_raise (symbols_of tight held5 numbered) 1 on_left (1 ∷ 2 ∷ []) ≡ None
stops = refl

-- with 1 below the node F is 1 in each term, and 12, 28 and 46 fit
goes : stated_raise (symbols_of tight held5 numbered) 1 on_left (1 ∷ 1 ∷ []) ≡ Some (whole 46)
goes = refl

-- two keys on the right-combed tree of three Fibonacci strands, at the paths of total charge t and at another
abbrev fib_state : State Whole5
fib_state = record { strands = 1 ∷ 1 ∷ 1 ∷ []; shape = two_right; amps = ((1 ∷ 0 ∷ []), whole 1) ∷ ((1 ∷ 1 ∷ []), whole 2) ∷ [] }

stands_for : ((comb fib fib_state (0 ∷ 1 ∷ 0 ∷ 1 ∷ []) ≡ num (pos 1) (pos 0) (negsuc 0) (negsuc 0)) × (comb fib fib_state (0 ∷ 1 ∷ 1 ∷ 1 ∷ []) ≡ num (pos 1) (pos 0) (pos 1) (pos 1)) × (comb fib fib_state (0 ∷ 1 ∷ 1 ∷ 0 ∷ []) ≡ whole 0))
stands_for = (refl, refl, refl)

-- a tree with labels of its own at each place is its outline with its own labels
abbrev bushy : Labelled
bushy = Joined (Joined (Strand 1) (Strand 2) 5) (Joined (Strand 3) (Joined (Strand 4) (Strand 6) 7) 8) 9

own : with_labels (outline_of bushy) (leaves bushy) (node_labels bushy) ≡ bushy
own = refl
