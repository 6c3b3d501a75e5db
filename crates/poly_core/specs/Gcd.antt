-- The greatest common divisor, as a function, and what it divides.
use Rattle.std.proofs.Common.{◌≡◌, ℕ, zero, suc, ◌+◌, ◌*◌, ◌%◌, ◌<◌, true, false, cond, eqb, sym, ap, ◌∙◌, subst, arith, inl, inr}
use Rattle.std.specs.Int.{IsGcd}
use Rattle.std.proofs.lemmas.Bool.{cases_eq}
use Rattle.std.proofs.lemmas.Bool.Decides.{nat_tests}
use Rattle.std.proofs.lemmas.Nat.{mod_below, div-add-mod'}
use Rattle.std.proofs.lemmas.Nat.Gcd.{IsGcd-from_zero, IsGcd-from_mod, same_from_IsGcd}
use native.Mathlib.Nat.{mul-div-mul_left}

-- Euclid's steps, at most n of them
abbrev pub gcd_by : ℕ → ℕ → ℕ → ℕ
gcd_by zero a b = a
gcd_by (suc n) a b = cond (eqb b 0) a (gcd_by n b (a % b))

-- the greatest common divisor
unfoldable pub gcd : ℕ → ℕ → ℕ
gcd a b = gcd_by (suc b) a b

-- how many of the numbers below k have no divisor in common with n
abbrev pub units_below : ℕ → ℕ → ℕ
units_below n zero = 0
units_below n (suc k) = cond (eqb (gcd k n) 1) 1 0 + units_below n k

-- Euler's phi
unfoldable pub totient : ℕ → ℕ
totient n = units_below n n

mul-mod-mul : (k a b : ℕ) → 0 < k → (k * a) % (k * b) ≡ k * (a % b)
mul-mod-mul k a b lt =
    omega (arith, ap (λ z. k * z) (div-add-mod' a b), div-add-mod' (k * a) (k * b), ap (λ z. z * (k * b)) (mul-div-mul_left a b lt))

-- the steps find a greatest common divisor, k times over
steps_IsGcd : (k : ℕ) → 0 < k → (n a b : ℕ) → b < n → IsGcd (k * a) (k * b) (k * gcd_by n a b)
steps_IsGcd k lt zero a b h = absurd (omega arith)
steps_IsGcd k lt (suc n) a b h =
    elim (cases_eq b 0) [
      | inl e ↦
          let none : eqb b 0 ≡ true = grind (arith, nat_tests) in
          let nought : k * b ≡ 0 = ap (λ z. k * z) e ∙ omega arith in
          subst (λ t. IsGcd (k * a) (k * b) (k * cond t a (gcd_by n b (a % b)))) (sym none) (IsGcd-from_zero (k * a) (k * b) nought)
      | inr ne ↦
          let some : eqb b 0 ≡ false = grind (arith, nat_tests) in
          let below = mod_below a b (omega arith) in
          let rest = steps_IsGcd k lt n b (a % b) (omega arith) in
          subst (λ t. IsGcd (k * a) (k * b) (k * cond t a (gcd_by n b (a % b)))) (sym some)
          (IsGcd-from_mod (k * a) (k * b) _ (subst (λ m. IsGcd (k * b) m (k * gcd_by n b (a % b))) (sym (mul-mod-mul k a b lt)) rest))
    ]

pub IsGcd-gcd : (a b : ℕ) → IsGcd a b (gcd a b)
unfolding gcd
IsGcd-gcd a b =
    let one : (m : ℕ) → 1 * m ≡ m = λ m. omega arith in
    let G : ℕ → ℕ → ℕ → Type 0 = IsGcd in
    subst (λ m. G a b m) (one (gcd_by (suc b) a b)) (subst (λ m. G a m (1 * gcd_by (suc b) a b)) (one b) (subst (λ m. G m (1 * b) (1 * gcd_by (suc b) a b)) (one a) (steps_IsGcd 1 (omega arith) (suc b) a b (omega arith))))

pub gcd-times : (k a b : ℕ) → 0 < k → gcd (k * a) (k * b) ≡ k * gcd a b
unfolding gcd
gcd-times k a b lt = same_from_IsGcd (k * a) (k * b) _ _ (IsGcd-gcd (k * a) (k * b)) (steps_IsGcd k lt (suc b) a b (omega arith))
