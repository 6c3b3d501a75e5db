-- The powers of a root of unity z of order N, in the basis 1, z, .., z^(phi(N) - 1).
use Rattle.std.specs.Prelude.{ℕ, suc, Bool, ◌&&◌, nat_lt, nat_le, List, ℤ}
use Rattle.poly_core.specs.Combination.{Sequence}
use Rattle.poly_core.specs.Companion.{power}
use Rattle.poly_core.specs.Gcd.{totient}
use Rattle.poly_core.specs.Good.{phi}
use Rattle.poly_core.specs.Roots.{root_at}
use Rattle.poly_core.specs.Table.{whole_row}
use Rattle.poly_core.specs.declared.limits.TheConstants.{ROOT_LIMIT, DEGREE_LIMIT}

-- the roots that numbers may have
unfoldable pub is_accepted : ℕ → Bool
is_accepted n = nat_lt 0 n && (nat_le n ROOT_LIMIT && nat_le (totient n) DEGREE_LIMIT)

-- the coefficients of Phi_N, low one first
unfoldable pub polynomial : ℕ → List ℤ
polynomial n = whole_row (root_at n).low

-- phi(N), the degree of Phi_N
unfoldable pub degree : ℕ → ℕ
degree n = suc (root_at n).less_one

-- the order of z: N itself, where N is accepted
unfoldable pub order : ℕ → ℕ
order n = (root_at n).order

-- rho n k j is the coefficient of z^j in z^k: rho n 0 is 1, and rho n (k + 1) is z times rho n k, with the
-- coefficient of z^phi(N) removed by subtracting that multiple of Phi_N
unfoldable pub rho : ℕ → ℕ → Sequence
rho n = power (root_at n).less_one (phi (root_at n))
