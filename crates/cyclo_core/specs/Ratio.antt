-- Cyclotomic numbers as callers see them, and their ring for each root: the sum over places below phi(N) of
-- numerators times powers of z, over a denominator, where z is a root of unity of order N.
use Rattle.std.specs.Prelude.{ℕ, zero, suc, ◌+◌, ◌*◌, ◌-◌, ◌%◌, ◌^◌, ◌/◌, ◌≡◌, ◌<◌, ◌≤◌, max, Bool, true, false, ◌&&◌, nat_lt, nat_le, nat_eq, if◌then◌else◌, List, [], ◌∷◌, ℤ, pos, ◌+ℤ◌, ◌*ℤ◌, neg_ℤ, unsigned_abs}
use Rattle.ring_laws.specs.Ring.{Ring, Held}
use Rattle.ring_laws.specs.Whole.{int_equal}
use Rattle.poly_core.specs.Combination.{Sequence}
use Rattle.poly_core.specs.Gcd.{gcd}
use Rattle.poly_core.specs.Rho.{degree, order, rho}
use Rattle.poly_core.specs.Table.{at, all_below}
use Rattle.cyclo_core.specs.Content.{content, quotient}
use Rattle.cyclo_core.specs.Sums.{int_sum, nat_sum}

-- sixteen numerators over one denominator, without bound
pub record Ratio : Type 0 where
  pub numerators : List ℤ
  pub denominator : ℕ

-- the greatest magnitude of a numerator or denominator
abbrev pub most : ℕ
most = 2 ^ 127 - 1

-- the first k of a sequence
abbrev pub tabulate : ℕ → Sequence → List ℤ
tabulate zero f = []
tabulate (suc k) f = f zero ∷ tabulate k (λ j. f (suc j))

-- sixteen numerators over a denominator, each divided by what is common to all of them
unfoldable pub reduced : Sequence → ℕ → Ratio
reduced f d = record { numerators = tabulate 16 (λ j. quotient (content d 16 f) (f j)); denominator = d / content d 16 f }

-- what the type of numbers keeps: magnitudes of at most 2^127 - 1, a positive denominator, and nothing in common
pub record IsNumber (numerators : List ℤ) (denominator : ℕ) : Type 0 where
  pub small : (j : ℕ) → unsigned_abs (at numerators j) ≤ 2 ^ 127 - 1
  pub positive : 0 < denominator
  pub bounded : denominator ≤ 2 ^ 127 - 1
  pub lowest : content denominator 16 (at numerators) ≡ 1

-- whether two lists are equal, place by place
abbrev pub same_list : List ℤ → List ℤ → Bool
same_list [] [] = true
same_list [] (y ∷ ys) = false
same_list (x ∷ xs) [] = false
same_list (x ∷ xs) (y ∷ ys) = int_equal x y && same_list xs ys

-- whether two numbers are equal: numerators and denominator
abbrev pub same_ratio : Ratio → Ratio → Bool
same_ratio x y = same_list x.numerators y.numerators && nat_eq x.denominator y.denominator

-- the magnitude of the numerator at j
abbrev pub magnitude : Ratio → ℕ → ℕ
magnitude x j = unsigned_abs (at x.numerators j)

-- zero is 0 over 1
abbrev pub zero_ratio : Ratio
zero_ratio = record { numerators = tabulate 16 (λ _. pos 0); denominator = 1 }

-- whether the type of elements can hold a number
unfoldable pub is_held : Ratio → Bool
is_held x = all_below 16 (λ j. nat_le (magnitude x j) most) && nat_le x.denominator most

-- which numbers the type of elements can hold; which of them are zero and equal
abbrev pub held : Held Ratio
held = record {
  can_hold = is_held;
  is_zero = λ x. same_ratio x zero_ratio;
  equal = same_ratio;
}

-- the numerator at j in the ring of root N: zero from phi(N) on
abbrev pub coefficient : ℕ → Ratio → Sequence
coefficient N x j = if nat_lt j (degree N) then at x.numerators j else pos 0

-- the denominator, where 0 counts as 1
abbrev pub under : Ratio → ℕ
under x = max 1 x.denominator

-- x_a y_b rho((a + b) mod N, j)
abbrev pub product_term : ℕ → Sequence → Sequence → ℕ → ℕ → ℕ → ℤ
product_term N x y j a b = (x a *ℤ y b) *ℤ rho N ((a + b) % order N) j

-- the numerator at j of a product: the sum over a and b of x_a y_b rho((a + b) mod N, j)
abbrev pub product_at : ℕ → Sequence → Sequence → Sequence
product_at N x y j = int_sum (degree N) (λ a. int_sum (degree N) (product_term N x y j a))

-- x_a rho((N - a) mod N, j)
abbrev pub conjugate_term : ℕ → Sequence → ℕ → ℕ → ℤ
conjugate_term N x j a = x a *ℤ rho N ((order N - a) % order N) j

-- the numerator at j of a conjugate: the sum over a of x_a rho((N - a) mod N, j)
abbrev pub conjugate_over : ℕ → Sequence → Sequence
conjugate_over N x j = int_sum (degree N) (conjugate_term N x j)

-- the same sums with magnitudes
abbrev pub product_size_term : ℕ → Sequence → Sequence → ℕ → ℕ → ℕ → ℕ
product_size_term N x y j a b = unsigned_abs (x a) * unsigned_abs (y b) * unsigned_abs (rho N ((a + b) % order N) j)

-- what a product's numerator at j may be at most: the sum over a and b of |x_a| |y_b| |rho((a + b) mod N, j)|
abbrev pub product_size : ℕ → Sequence → Sequence → ℕ → ℕ
product_size N x y j = nat_sum (degree N) (λ a. nat_sum (degree N) (product_size_term N x y j a))

abbrev pub conjugate_size_term : ℕ → Sequence → ℕ → ℕ → ℕ
conjugate_size_term N x j a = unsigned_abs (x a) * unsigned_abs (rho N ((order N - a) % order N) j)

-- the sum over a of |x_a| |rho((N - a) mod N, j)|
abbrev pub conjugate_size : ℕ → Sequence → ℕ → ℕ
conjugate_size N x j = nat_sum (degree N) (conjugate_size_term N x j)

-- the magnitude at j of a sum, before anything cancels: |x_j| (e / g) + |y_j| (d / g), g the greatest common
-- divisor of the denominators d and e
abbrev pub sum_size : Ratio → Ratio → ℕ → ℕ
sum_size x y j =
    let g = gcd x.denominator y.denominator in
    magnitude x j * (y.denominator / g) + magnitude y j * (x.denominator / g)

-- The ring of root N: fractions of sums of powers of z, each in its reduced form. A member is its own reduced
-- form with the numerators below phi(N): those from there on are zero, nothing is common, and the denominator
-- isn't 0. The operations take every value: places from phi(N) on don't count, and a denominator 0 counts as 1.
-- The fit tests are on magnitudes before anything cancels. A number N that is no accepted root has the ring of 1.
abbrev pub ring_at : ℕ → Ring Ratio
ring_at N = record {
  member = λ x. same_ratio x (reduced (coefficient N x) (under x));
  zero = zero_ratio;
  one = record { numerators = pos 1 ∷ tabulate 15 (λ _. pos 0); denominator = 1 };
  sum = λ x y. reduced (λ j. pos (under y) *ℤ coefficient N x j +ℤ pos (under x) *ℤ coefficient N y j) (under x * under y);
  product = λ x y. reduced (product_at N (at x.numerators) (at y.numerators)) (under x * under y);
  negative = λ x. reduced (λ j. neg_ℤ (coefficient N x j)) (under x);
  conjugate = λ x. reduced (conjugate_over N (at x.numerators)) (under x);
  sum_fits = λ x y. all_below (degree N) (λ j. nat_le (sum_size x y j) most) && nat_le (x.denominator * (y.denominator / gcd x.denominator y.denominator)) most;
  product_fits = λ x y. all_below (degree N) (λ j. nat_le (product_size N (at x.numerators) (at y.numerators) j) most) && nat_le (x.denominator * y.denominator) most;
  conjugate_fits = λ x. all_below (degree N) (λ j. nat_le (conjugate_size N (at x.numerators) j) most);
}
