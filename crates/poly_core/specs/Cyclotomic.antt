-- Cyclotomic polynomials, as exact quotients. A polynomial is the list of its coefficients, low one first.
use Rattle.std.specs.Prelude.{◌≡◌, ℕ, zero, suc, ◌-◌, ◌%◌, ◌<◌, Bool, nat_eq, if◌then◌else◌, List, [], ◌∷◌, ◌++◌, replicate, map, ℤ, pos, negsuc, ◌+ℤ◌, ◌*ℤ◌, IsTrue}

-- the sum of two polynomials
abbrev pub sum_of : List ℤ → List ℤ → List ℤ
sum_of [] ys = ys
sum_of (x ∷ xs) [] = x ∷ xs
sum_of (x ∷ xs) (y ∷ ys) = (x +ℤ y) ∷ sum_of xs ys

-- the product of two polynomials
abbrev pub product_of : List ℤ → List ℤ → List ℤ
product_of [] ys = []
product_of (x ∷ xs) ys = sum_of (map (λ y. x *ℤ y) ys) (pos 0 ∷ product_of xs ys)

-- x^n - 1, for a positive n
abbrev pub power_less_one : ℕ → List ℤ
power_less_one n = negsuc 0 ∷ (replicate (n - 1) (pos 0) ++ pos 1 ∷ [])

-- whether d divides n
abbrev pub divides : ℕ → ℕ → Bool
divides d n = nat_eq (n % d) 0

-- the product of the polynomials of those divisors of n that are above 0 and at most k
abbrev pub product_up_to : (ℕ → List ℤ) → ℕ → ℕ → List ℤ
product_up_to family n zero = pos 1 ∷ []
product_up_to family n (suc k) = if divides (suc k) n then product_of (family (suc k)) (product_up_to family n k) else product_up_to family n k

-- P is Phi_n: the exact quotient of x^n - 1 by the product of all Phi_d with d a divisor of n below n
pub data IsCyclotomic : ℕ → List ℤ → Type 0 where
  quotient : (n : ℕ) (P : List ℤ) (family : ℕ → List ℤ) → 0 < n
      → ((d : ℕ) → 0 < d → d < n → IsTrue (divides d n) → IsCyclotomic d (family d))
      → product_of P (product_up_to family n (n - 1)) ≡ power_less_one n
      → IsCyclotomic n P
