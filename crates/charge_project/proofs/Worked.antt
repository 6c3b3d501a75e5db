-- Worked values: parts of a state with two keys, what they stand for on the Fibonacci category, and weights there and on
-- symbols with another number at each index. The expected values were worked out by hand.
use Rattle.std.specs.Prelude.{◌≡◌, ℕ, ◌+◌, ◌*◌, Bool, true, false, ◌&&◌, not, List, [], ◌∷◌, Option, Some, None, pos, negsuc, refl, slice_index}
use Rattle.ring_laws.specs.Ring.{Ring}
use Rattle.ring_laws.specs.Whole.{int_equal}
use Rattle.symbol_table.proofs.Fib.{Whole5, fib, held5, inverse_golden, num, ring5, whole}
use Rattle.symbol_table.specs.Symbols.{Given, Symbols, symbols_of}
use Rattle.tree_shapes.specs.Outlines.{Tip, Branch}
use Rattle.comb_laws.specs.Operators.{projected, weight}
use Rattle.tree_laws.specs.Entries.{values}
use Rattle.tree_laws.specs.Weights.{state_weight}
use Rattle.recouple.specs.States.{State, comb}
use Rattle.charge_project.specs.Splits.{part_at, parts_below}
use Rattle.charge_project.specs.Weights.{key_weight, node_weight, stated_weight}

-- the pair is on the right, and its label is 1 or t
abbrev two_keys : State Whole5
two_keys = record { strands = 1 ∷ 1 ∷ 1 ∷ []; shape = Branch Tip (Branch Tip Tip); amps = ((1 ∷ 0 ∷ []), whole 1) ∷ ((1 ∷ 1 ∷ []), whole 2) ∷ [] }

abbrev with_amps : List (List ℕ × Whole5) → State Whole5
with_amps amps = record { strands = two_keys.strands; shape = two_keys.shape; amps = amps }

parts : parts_below 2 two_keys 2 ≡ (0, with_amps (((1 ∷ 0 ∷ []), whole 1) ∷ [])) ∷ (1, with_amps (((1 ∷ 1 ∷ []), whole 2) ∷ [])) ∷ []
parts = refl

-- a label that doesn't occur has no part
one_part : parts_below 2 (with_amps (((1 ∷ 1 ∷ []), whole 2) ∷ [])) 2 ≡ (1, with_amps (((1 ∷ 1 ∷ []), whole 2) ∷ [])) ∷ []
one_part = refl

-- H(t,t,t,t;1,x) is 1/phi for both labels x
stands_for : ((comb fib (part_at 2 two_keys 0) (0 ∷ 1 ∷ 0 ∷ 1 ∷ []) ≡ inverse_golden) × (comb fib (part_at 2 two_keys 0) (0 ∷ 1 ∷ 1 ∷ 1 ∷ []) ≡ inverse_golden))
stands_for = (refl, refl)

projection : ((projected fib (1 ∷ 1 ∷ 1 ∷ []) 2 0 (comb fib two_keys) (0 ∷ 1 ∷ 0 ∷ 1 ∷ []) ≡ inverse_golden) × (projected fib (1 ∷ 1 ∷ 1 ∷ []) 2 0 (comb fib two_keys) (0 ∷ 1 ∷ 1 ∷ 1 ∷ []) ≡ inverse_golden))
projection = (refl, refl)

-- with w(t,t,1) = 1/phi the keys weigh 1/phi times 1 and 1 times 4, and so does the vector
weighs : stated_weight fib two_keys ≡ Some (num (pos 3) (pos 0) (negsuc 0) (negsuc 0))
weighs = refl

weighs_as_vector : weight fib (1 ∷ 1 ∷ 1 ∷ []) (comb fib two_keys) ≡ num (pos 3) (pos 0) (negsuc 0) (negsuc 0)
weighs_as_vector = refl

weighs_nothing : stated_weight fib (with_amps []) ≡ Some (whole 0)
weighs_nothing = refl

-- no category: three labels that all fuse, and a weight of its own at each index
abbrev apart_given : Given Whole5
apart_given = record {
  version = 1;
  count = 3;
  fuse = λ a b c. true;
  set_f = λ a b c d e f. None;
  set_r = λ a b c. None;
  set_w = λ a b c. Some (whole (1 + a + 3 * b + 9 * c));
  set_v = λ a b c. None;
  set_twist = λ a. None;
  set_loop = λ a. None;
}

abbrev apart_over : Ring Whole5 → Symbols Whole5
apart_over r = symbols_of r held5 apart_given

abbrev apart : Symbols Whole5
apart = apart_over ring5

-- a node over two pairs, and two keys with the amplitudes 2 + z and 3 + z^2
abbrev two_pairs : State Whole5
two_pairs = record {
  strands = 1 ∷ 2 ∷ 0 ∷ 2 ∷ [];
  shape = Branch (Branch Tip Tip) (Branch Tip Tip);
  amps = ((0 ∷ 1 ∷ 2 ∷ []), num (pos 2) (pos 1) (pos 0) (pos 0)) ∷ ((2 ∷ 0 ∷ 1 ∷ []), num (pos 3) (pos 0) (pos 1) (pos 0)) ∷ [];
}

-- w(1,2,0) is 8, w(0,2,1) is 16 and w(0,2,2) is 25
weights_of_nodes : ((node_weight apart two_pairs (0 ∷ 1 ∷ 2 ∷ []) 1 ≡ whole 8) × (node_weight apart two_pairs (0 ∷ 1 ∷ 2 ∷ []) 2 ≡ whole 16) × (node_weight apart two_pairs (0 ∷ 1 ∷ 2 ∷ []) 3 ≡ whole 25))
weights_of_nodes = (refl, refl, refl)

-- w(1,2,2) w(2,1,0) w(0,2,1) is 26 * 6 * 16
weights_of_keys : ((key_weight apart two_pairs (0 ∷ 1 ∷ 2 ∷ []) ≡ Some (whole 3200)) × (key_weight apart two_pairs (2 ∷ 0 ∷ 1 ∷ []) ≡ Some (whole 2496)))
weights_of_keys = (refl, refl)

-- 2 + z times its conjugate is 3 - 2 z^2 - 2 z^3, and 3 + z^2 times its own is 10 + 3 z^2 + 3 z^3
weighs_apart : stated_weight apart two_pairs ≡ Some (num (pos 34560) (pos 0) (pos 1088) (pos 1088))
weighs_apart = refl

weighs_by_definition : state_weight apart two_pairs.shape (slice_index two_pairs.strands) (values ring5 3 two_pairs.amps) ≡ num (pos 34560) (pos 0) (pos 1088) (pos 1088)
weighs_by_definition = refl

-- a node over a strand and a pair: w(0,2,2) is 25, and w(1,2,1) is 17
weighs_on_the_right : stated_weight apart (record { strands = 1 ∷ 0 ∷ 2 ∷ []; shape = Branch Tip (Branch Tip Tip); amps = ((1 ∷ 2 ∷ []), num (pos 2) (pos 1) (pos 0) (pos 0)) ∷ [] })
    ≡ Some (num (pos 1275) (pos 0) (negsuc 849) (negsuc 849))
weighs_on_the_right = refl

-- the ring without one product or one sum, told by the first parts of its two values in their order
abbrev starts : ℕ → ℕ → Whole5 → Whole5 → Bool
starts a b x y = int_equal x.c0 (pos a) && int_equal y.c0 (pos b)

abbrev without : (product sum : Whole5 → Whole5 → Bool) → Ring Whole5
without product sum = record ring5 { product_fits = λ x y. not (product x y); sum_fits = λ x y. not (sum x y) }

abbrev without_product : ℕ → ℕ → Option Whole5
without_product a b = stated_weight (apart_over (without (starts a b) (λ x y. false))) two_pairs

abbrev without_sum : ℕ → ℕ → Option Whole5
without_sum a b = stated_weight (apart_over (without (λ x y. false) (starts a b))) two_pairs

-- each stands as the evaluation states it, and not the other way round
in_order : ((without_product 1 8 ≡ None) × (without_product 8 16 ≡ None) × (without_product 128 25 ≡ None) × (without_product 2 1 ≡ None) × (without_product 3200 3 ≡ None) × (without_sum 0 9600 ≡ None) × (without_sum 9600 24960 ≡ None))
in_order = (refl, refl, refl, refl, refl, refl, refl)

not_turned : ((without_product 8 1 ≡ without_product 0 0) × (without_product 16 8 ≡ without_product 0 0) × (without_product 25 128 ≡ without_product 0 0) × (without_product 1 2 ≡ without_product 0 0) × (without_product 3 3200 ≡ without_product 0 0) × (without_sum 9600 0 ≡ without_product 0 0) × (without_sum 24960 9600 ≡ without_product 0 0))
not_turned = (refl, refl, refl, refl, refl, refl, refl)

fits_otherwise : without_product 0 0 ≡ Some (num (pos 34560) (pos 0) (pos 1088) (pos 1088))
fits_otherwise = refl
