-- Tests of numbers.
use Rattle.std.proofs.Common.{◌≡◌, ℕ, ◌<◌, ◌≤◌, true, false, arith, inl, inr, ◌⊎◌}
use Rattle.std.specs.Prelude.{◌==◌, nat_lt}
use Rattle.std.proofs.lemmas.Bool.{cases_lt}
use Rattle.std.proofs.lemmas.Bool.Decides.{eqb_tells, nat_tests}

pub test_true : (e n : ℕ) → e ≡ n → (e == n) ≡ true
test_true e n h = grind (arith, nat_tests)

pub test_false : (e n : ℕ) → (e ≡ n → ⊥) → (e == n) ≡ false
test_false e n h = grind (arith, nat_tests)

pub less : (k m : ℕ) → k < m → nat_lt k m ≡ true
less k m h = grind (arith, nat_tests)

pub not_less : (k m : ℕ) → m ≤ k → nat_lt k m ≡ false
not_less k m h = grind (arith, nat_tests)

pub three : (k m : ℕ) → (k < m) ⊎ ((k ≡ m) ⊎ (m < k))
three k m =
    elim (cases_lt k m) [
      | inl lower ↦ inl lower
      | inr over ↦ elim (eqb_tells k m) [ inl e ↦ inr (inl e.1) | inr off ↦ inr (inr (above k m over off.1)) ]
    ]
  where
    above : (k m : ℕ) → m ≤ k → (k ≡ m → ⊥) → m < k
    above k m h n = grind (arith, nat_tests)
