-- Sums of ring values, over the labels below a count and over a list.
use Rattle.std.specs.Prelude.{ℕ, zero, suc, List, [], ◌∷◌}
use Rattle.ring_laws.specs.Ring.{Ring}

-- the sum of the terms of the labels below n, in their order, begun at zero
abbrev pub total : {E : Type 0} → Ring E → ℕ → (ℕ → E) → E
total R zero f = R.zero
total R (suc n) f = R.sum (total R n f) (f n)

-- the sum of the terms of the items of a list
abbrev pub sum_over : {E A : Type 0} → Ring E → (A → E) → List A → E
sum_over R f [] = R.zero
sum_over R f (x ∷ xs) = R.sum (f x) (sum_over R f xs)
