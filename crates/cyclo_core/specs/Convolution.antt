-- Products of polynomials, before their powers from phi(N) on are written by those below.
use Rattle.std.specs.Prelude.{ℕ, ◌+◌, ◌≤◌, List, ℤ, ◌*ℤ◌, unsigned_abs}
use Rattle.poly_core.specs.Combination.{Sequence}
use Rattle.poly_core.specs.Rho.{rho}
use Rattle.poly_core.specs.Table.{at}
use Rattle.cyclo_core.specs.Sums.{int_sum}

-- x y_b, where the power a + b weighs r (a + b)
abbrev pub row_term : ℤ → Sequence → Sequence → ℕ → ℕ → ℤ
row_term x y r a b = (x *ℤ y b) *ℤ r (a + b)

-- the products of the coefficient at a with sixteen others, where the power k weighs r k
abbrev pub row_sum : Sequence → Sequence → Sequence → ℕ → ℤ
row_sum x y r a = int_sum 16 (row_term (x a) y r a)

-- a coefficient, where the power k weighs r k
abbrev pub weight : Sequence → Sequence → ℕ → ℤ
weight c r k = c k *ℤ r k

-- the sum of thirty-two coefficients, where the power k weighs r k
abbrev pub weighed : List ℤ → Sequence → ℤ
weighed c r = int_sum 32 (weight (at c) r)

-- the coefficients of z^j in the powers of z
abbrev pub column : ℕ → ℕ → Sequence
column N j k = rho N k j

-- all magnitudes are at most a bound
abbrev pub AreUpTo : ℕ → List ℤ → Type 0
AreUpTo bound xs = (k : ℕ) → unsigned_abs (at xs k) ≤ bound
