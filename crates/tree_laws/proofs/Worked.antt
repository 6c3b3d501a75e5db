-- Worked values: on symbols with numbers of their own at some indices and one elsewhere, and on the Fibonacci category.
-- The expected values were worked out by hand from the listed numbers.
use Rattle.std.specs.Prelude.{◌≡◌, ℕ, ◌+◌, ◌*◌, ◌==◌, if◌then◌else◌, List, [], ◌∷◌, pos, negsuc, refl, slice_index}
use Rattle.symbol_table.proofs.Fib.{Whole5, fib, held5, num, numbered, ring5, whole}
use Rattle.symbol_table.specs.Symbols.{Symbols, symbols_of}
use Rattle.tree_shapes.specs.Contexts.{Hole, OnLeft}
use Rattle.tree_shapes.specs.Outlines.{Outline, Tip, Branch}
use Rattle.tree_laws.specs.Entries.{comb_of, labels_of, listed, values}
use Rattle.tree_laws.specs.Operators.{braid_by, braided, projected, swapped}
use Rattle.tree_laws.specs.Recoupling.{raised_left, raised_right, turned}
use Rattle.tree_laws.specs.Surroundings.{around}
use Rattle.tree_laws.specs.Trees.{amplitude, stands_for}
use Rattle.tree_laws.specs.Weights.{along, state_weight, tree_weight, weight}

abbrev some : Symbols Whole5
some = symbols_of ring5 held5 numbered

-- labels by place, from 0, and by gap, from 1
abbrev from_0 : List ℕ → ℕ → ℕ
from_0 xs = slice_index xs

abbrev from_1 : List ℕ → ℕ → ℕ
from_1 xs = labels_of xs

abbrev two_left : Outline
two_left = Branch (Branch Tip Tip) Tip

abbrev two_right : Outline
two_right = Branch Tip (Branch Tip Tip)

-- 7, 11 or 13 by a label, and 5 times another
abbrev by_labels : ℕ → ℕ → Whole5
by_labels a b = whole ((if a == 0 then 7 else (if a == 1 then 11 else 13)) + 5 * b)

-- H(1,2,0,1;2,0) is 2 times 23, and H(1,2,0,1;2,1) is 3
amplitude_of_two : amplitude some (Branch Tip Tip) (from_0 (2 ∷ 0 ∷ [])) (from_0 (1 ∷ 0 ∷ 1 ∷ [])) (from_1 (2 ∷ [])) 0 ≡ whole 46
amplitude_of_two = refl

amplitude_of_three : amplitude some two_left (from_0 (2 ∷ 0 ∷ 0 ∷ [])) (from_0 (1 ∷ 0 ∷ 1 ∷ 1 ∷ [])) (from_1 (2 ∷ 2 ∷ [])) 0 ≡ whole 138
amplitude_of_three = refl

-- what is around the left child of that tree, whose top label is 2
amplitude_around : around some (OnLeft Hole Tip) 2 2 (from_0 (2 ∷ 0 ∷ 0 ∷ [])) (from_0 (1 ∷ 0 ∷ 1 ∷ 1 ∷ [])) (from_1 (2 ∷ 2 ∷ [])) 0 ≡ whole 3
amplitude_around = refl

-- labels change places: that of gap 1 goes to gap 2, and gap 1 has 9
labels_turned : ((turned 1 2 (from_1 (3 ∷ 4 ∷ [])) 9 1 ≡ 9) × (turned 1 2 (from_1 (3 ∷ 4 ∷ [])) 9 2 ≡ 3))
labels_turned = (refl, refl)

-- the strands 1, 2 and 0 with 1 at the node that was raised and 2 below it: 2 * 12 + 3 * 16 + 1 * 18
over_by_f : raised_left some Tip Tip Tip 0 (from_0 (1 ∷ 2 ∷ 0 ∷ [])) (λ key. by_labels (key 1) (key 2)) (from_1 (1 ∷ 2 ∷ [])) ≡ whole 90
over_by_f = refl

-- back, with 1 at the node that was raised and 0 below it: 23 * 12 + 23 * 16 + 46 * 18
back_by_h : raised_right some Tip Tip Tip 0 (from_0 (1 ∷ 2 ∷ 0 ∷ [])) (λ key. by_labels (key 2) (key 1)) (from_1 (0 ∷ 1 ∷ [])) ≡ whole 1472
back_by_h = refl

strands_swapped : ((swapped 0 (from_0 (2 ∷ 0 ∷ 1 ∷ [])) 0 ≡ 0) × (swapped 0 (from_0 (2 ∷ 0 ∷ 1 ∷ [])) 1 ≡ 2) × (swapped 0 (from_0 (2 ∷ 0 ∷ 1 ∷ [])) 2 ≡ 1))
strands_swapped = (refl, refl, refl)

abbrev exchange : ℕ → ℕ → ℕ → Whole5
exchange a b q = whole (100 * a + 10 * b + q)

-- 200 + 201 + 202 * 2 * 5
kernel_of_a_braid : braid_by some exchange 1 2 0 1 0 0 ≡ whole 2421
kernel_of_a_braid = refl

-- 2421 * 7 + 3431 * 11 + 1411 * 13
braid_of_two : braided some exchange (from_0 (2 ∷ 0 ∷ [])) 0 (λ x. by_labels (x 1) 0) (from_0 (1 ∷ 0 ∷ 1 ∷ [])) ≡ whole 73031
braid_of_two = refl

-- 46 * (2 * 7 + 3 * 11 + 13)
projection_of_two : projected some (from_0 (2 ∷ 0 ∷ [])) 0 2 (λ x. by_labels (x 1) 0) (from_0 (1 ∷ 0 ∷ 1 ∷ [])) ≡ whole 2760
projection_of_two = refl

-- w(1,2,0) is 17, and w(2,1,0) is 19
weights_along : ((along some (from_0 (2 ∷ 1 ∷ [])) (from_0 (1 ∷ 0 ∷ 1 ∷ [])) 0 2 ≡ whole 17) × (along some (from_0 (0 ∷ 1 ∷ [])) (from_0 (1 ∷ 2 ∷ 0 ∷ [])) 0 2 ≡ whole 19))
weights_along = (refl, refl)

weights_of_trees : ((tree_weight some two_left (from_0 (1 ∷ 2 ∷ 1 ∷ [])) (from_1 (0 ∷ 1 ∷ [])) 0 ≡ whole 17) × (tree_weight some two_right (from_0 (2 ∷ 1 ∷ 1 ∷ [])) (from_1 (0 ∷ 1 ∷ [])) 0 ≡ whole 19))
weights_of_trees = (refl, refl)

-- two keys on the right-combed tree of three Fibonacci strands, with amplitudes 1 and 2
abbrev one_or_two : (ℕ → ℕ) → Whole5
one_or_two key = if key 1 == 1 then (if key 2 == 0 then whole 1 else whole 2) else whole 0

abbrev strands : ℕ → ℕ
strands = λ i. 1

stands_for_unit : stands_for fib two_right strands one_or_two (from_0 (0 ∷ 1 ∷ 0 ∷ 1 ∷ [])) ≡ num (pos 1) (pos 0) (negsuc 0) (negsuc 0)
stands_for_unit = refl

stands_for_t : stands_for fib two_right strands one_or_two (from_0 (0 ∷ 1 ∷ 1 ∷ 1 ∷ [])) ≡ num (pos 1) (pos 0) (pos 1) (pos 1)
stands_for_t = refl

-- off the total charge nothing stands
stands_for_none : stands_for fib two_right strands one_or_two (from_0 (0 ∷ 1 ∷ 1 ∷ 0 ∷ [])) ≡ whole 0
stands_for_none = refl

-- the same of entries
abbrev entries : List (List ℕ × Whole5)
entries = ((1 ∷ 0 ∷ []), whole 1) ∷ ((1 ∷ 1 ∷ []), whole 2) ∷ []

entries_stand_for : comb_of fib two_right strands entries (from_0 (0 ∷ 1 ∷ 0 ∷ 1 ∷ [])) ≡ num (pos 1) (pos 0) (negsuc 0) (negsuc 0)
entries_stand_for = refl

values_of : ((values ring5 2 entries (from_1 (1 ∷ 1 ∷ [])) ≡ whole 2) × (values ring5 2 entries (from_1 (0 ∷ 1 ∷ [])) ≡ whole 0) × (listed 1 2 (from_1 (3 ∷ 4 ∷ [])) ≡ 3 ∷ 4 ∷ []))
values_of = (refl, refl, refl)

-- with w(t,t,1) = 1/phi the state weighs 1 * 1/phi + 4, and so does its vector
weighs : state_weight fib two_right strands one_or_two ≡ num (pos 3) (pos 0) (negsuc 0) (negsuc 0)
weighs = refl

weighs_as_vector : weight fib 3 strands (stands_for fib two_right strands one_or_two) ≡ num (pos 3) (pos 0) (negsuc 0) (negsuc 0)
weighs_as_vector = refl
