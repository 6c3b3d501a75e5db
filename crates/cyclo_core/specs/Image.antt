-- The Galois action on the numbers of a root: what putting z^k for z makes of a number, where z^k is a root of unity
-- of the same order N.
use Rattle.std.specs.Prelude.{ℕ, ◌*◌, ◌%◌, Bool, ◌&&◌, nat_lt, nat_le, nat_eq, ℤ, ◌*ℤ◌, unsigned_abs}
use Rattle.poly_core.specs.Combination.{Sequence}
use Rattle.poly_core.specs.Gcd.{gcd}
use Rattle.poly_core.specs.Rho.{degree, order, rho}
use Rattle.poly_core.specs.Table.{at, all_below}
use Rattle.cyclo_core.specs.Ratio.{Ratio, most, tabulate, reduced, under}
use Rattle.cyclo_core.specs.Sums.{int_sum, nat_sum}

-- whether k is from 1 to N and has no divisor in common with N, so that z^k has the order N too
unfoldable pub is_exponent : ℕ → ℕ → Bool
is_exponent N k = nat_lt 0 k && (nat_le k N && nat_eq (gcd k N) 1)

-- x_a rho(a k mod N, j)
abbrev pub image_term : ℕ → ℕ → Sequence → ℕ → ℕ → ℤ
image_term N k x j a = x a *ℤ rho N ((a * k) % order N) j

-- the numerator at j of an image: the sum over a of x_a rho(a k mod N, j)
abbrev pub image_over : ℕ → ℕ → Sequence → Sequence
image_over N k x j = int_sum (degree N) (image_term N k x j)

abbrev pub image_size_term : ℕ → ℕ → Sequence → ℕ → ℕ → ℕ
image_size_term N k x j a = unsigned_abs (x a) * unsigned_abs (rho N ((a * k) % order N) j)

-- the sum over a of |x_a| |rho(a k mod N, j)|
abbrev pub image_size : ℕ → ℕ → Sequence → ℕ → ℕ
image_size N k x j = nat_sum (degree N) (image_size_term N k x j)

-- The image of a number under the map that sends z to z^k: these numerators over the same denominator, in reduced
-- form.
abbrev pub image_of : ℕ → ℕ → Ratio → Ratio
image_of N k x = reduced (image_over N k (at x.numerators)) (under x)

-- Whether the image fits: a test of magnitudes before anything cancels, as for a conjugate. The denominator doesn't
-- grow.
abbrev pub image_fits : ℕ → ℕ → Ratio → Bool
image_fits N k x = all_below (degree N) (λ j. nat_le (image_size N k (at x.numerators) j) most)

-- z^a
abbrev pub power_of : ℕ → ℕ → Ratio
power_of N a = record { numerators = tabulate 16 (rho N (a % order N)); denominator = 1 }
