-- The laws of sums that later proofs cite.
use Rattle.std.specs.Prelude.{◌≡◌, ℕ, List, ◌++◌}
use Rattle.std.specs.List.Sorted.{IsPermutation}
use Rattle.ring_laws.specs.Ring.{Ring}
use Rattle.ring_laws.specs.Sums.{total, sum_over}

-- Two sums over labels may be exchanged.
abbrev pub SumsExchange : {E : Type 0} → Ring E → Type 0
SumsExchange {E} r =
    (m n : ℕ) (f : ℕ → ℕ → E) → total r m (λ s. total r n (f s)) ≡ total r n (λ t. total r m (λ s. f s t))

-- A factor goes into a sum over labels.
abbrev pub FactorsDistribute : {E : Type 0} → Ring E → Type 0
FactorsDistribute {E} r = (n : ℕ) (x : E) (f : ℕ → E) → r.product x (total r n f) ≡ total r n (λ t. r.product x (f t))

-- A list of items of a type has the same sum in every order, and the sum over two pieces is that of their sums.
pub record OrderIsFree (A : Type 0) {E : Type 0} (r : Ring E) : Type 0 where
  pub reordered : (f : A → E) (xs ys : List A) → IsPermutation xs ys → sum_over r f ys ≡ sum_over r f xs
  pub pieces : (f : A → E) (xs ys : List A) → sum_over r f (xs ++ ys) ≡ r.sum (sum_over r f xs) (sum_over r f ys)
