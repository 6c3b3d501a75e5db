-- What holds of the powers of a root of unity, for every accepted order.
use Rattle.std.specs.Prelude.{◌≡◌, ℕ, ◌+◌, ◌-◌, ◌*◌, ◌%◌, ◌<◌, pos}
use Rattle.poly_core.specs.Combination.{Sequence, comb}
use Rattle.poly_core.specs.Companion.{next}
use Rattle.poly_core.specs.Gcd.{gcd, totient}
use Rattle.poly_core.specs.Rho.{polynomial, rho}
use Rattle.poly_core.specs.Table.{at}

-- The product with z, and away with the multiple of Phi_N that has the same coefficient of z^phi(N).
abbrev pub times_z : ℕ → Sequence → Sequence
times_z n = next (totient n - 1) (at (polynomial n))

-- The power after z^k is z times z^k; the one after z^(n - 1) is z^0 again.
pub record StepsRound (n : ℕ) : Type 0 where
  pub first : rho n 0 0 ≡ pos 1
  pub step : (k : ℕ) → k + 1 < n → rho n (k + 1) ≡ times_z n (rho n k)
  pub last : rho n 0 ≡ times_z n (rho n (n - 1))

-- Phi_n vanishes at z^k, for every k below n that has no divisor in common with n.
abbrev pub VanishesAtUnits : ℕ → Type 0
VanishesAtUnits n = (k : ℕ) → k < n → gcd k n ≡ 1 → (j : ℕ) → comb (totient n + 1) (at (polynomial n)) (λ i. rho n ((i * k) % n)) j ≡ pos 0

-- Putting z^k for z takes z^m to z^(m k), for the same k and every m below n.
abbrev pub PutsPowers : ℕ → Type 0
PutsPowers n = (k : ℕ) → k < n → gcd k n ≡ 1 → (m : ℕ) → m < n → (j : ℕ) → comb (totient n) (rho n m) (λ i. rho n ((i * k) % n)) j ≡ rho n ((m * k) % n) j
