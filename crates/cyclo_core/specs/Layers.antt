-- The ring of a root by its layers: fractions of combinations of powers modulo Phi_N.
use Rattle.std.specs.Prelude.{ℕ, zero, suc, ◌+◌, ◌*◌, ◌-◌, ◌%◌, ◌/◌, max, ◌&&◌, cond, ltb, nat_le, pos, unsigned_abs}
use Rattle.ring_laws.specs.Ring.{Ring}
use Rattle.poly_core.specs.Combination.{nought}
use Rattle.poly_core.specs.Companion.{unit, power, product}
use Rattle.poly_core.specs.Gcd.{gcd}
use Rattle.poly_core.specs.Good.{Root, phi}
use Rattle.poly_core.specs.Image.{image}
use Rattle.poly_core.specs.Table.{at, all_below}
use Rattle.cyclo_core.specs.Fraction.{Fraction, reduce}
use Rattle.cyclo_core.specs.FractionRing.{sum, negative, whole}
use Rattle.cyclo_core.specs.Ratio.{Ratio, most, tabulate, same_ratio, magnitude}
use Rattle.cyclo_core.specs.Sums.{nat_sum}

-- what stands below place n, over a positive number
abbrev pub fraction : ℕ → Ratio → Fraction
fraction n v = record { over = λ j. cond (ltb j n) (at v.numerators j) (pos 0); under = max 1 v.denominator }

abbrev pub ratio : Fraction → Ratio
ratio p = record { numerators = tabulate 16 p.over; denominator = p.under }

module _ (r : Root) where
  abbrev pub n : ℕ
  n = suc r.less_one

  -- the magnitude of the coefficient of z^j in z^k
  abbrev pub rho_size : ℕ → ℕ → ℕ
  rho_size k j = unsigned_abs (power r.less_one (phi r) (k % r.order) j)

  abbrev pub times : Fraction → Fraction → Fraction
  times p q = record { over = product r.less_one (phi r) p.over q.over; under = p.under * q.under }

  abbrev pub turned : Fraction → Fraction
  turned p = record { over = image r.less_one (phi r) (r.order - 1) p.over; under = p.under }

  abbrev pub cyclo_ring : Ring Ratio
  cyclo_ring = record {
    member = λ x. same_ratio x (ratio (reduce n (fraction n x)));
    zero = ratio (whole nought);
    one = ratio (whole (unit zero));
    sum = λ x y. ratio (reduce n (sum (fraction n x) (fraction n y)));
    product = λ x y. ratio (reduce n (times (fraction n x) (fraction n y)));
    negative = λ x. ratio (reduce n (negative (fraction n x)));
    conjugate = λ x. ratio (reduce n (turned (fraction n x)));
    sum_fits = λ x y.
        let g = gcd x.denominator y.denominator in
        all_below n (λ j. nat_le (magnitude x j * (y.denominator / g) + magnitude y j * (x.denominator / g)) most)
        && nat_le (x.denominator * (y.denominator / g)) most;
    product_fits = λ x y.
        all_below n (λ j. nat_le (nat_sum n (λ a. nat_sum n (λ b. magnitude x a * magnitude y b * rho_size (a + b) j))) most)
        && nat_le (x.denominator * y.denominator) most;
    conjugate_fits = λ x. all_below n (λ j. nat_le (nat_sum n (λ a. magnitude x a * rho_size (r.order - a) j)) most);
  }
