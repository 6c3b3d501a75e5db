-- The numbers of each root are a commutative ring with an involution.
use Rattle.std.proofs.Common.{◌≡◌, ℕ, zero, suc, ◌+◌, ◌*◌, ◌-◌, ◌/◌, ◌<◌, ◌≤◌, Bool, true, false, ◌&&◌, cond, ltb, List, [], ◌∷◌, refl, sym, ap, ap₂, ◌∙◌, subst, arith, inl, inr}
use Rattle.std.specs.Prelude.{ℤ, pos, unsigned_abs, IsTrue, ◌↔◌, nat_eq, nat_le}
use Rattle.std.proofs.lemmas.Bool.{cases_lt, cases_eq}
use Rattle.std.proofs.lemmas.Bool.Decides.{nat_tests}
use Rattle.ring_laws.specs.Ring.{Ring, RingLaws}
use Rattle.ring_laws.specs.Whole.{int_equal}
use Rattle.ring_laws.specs.WholeLaws.{int_equal_is}
use Rattle.poly_core.specs.Combination.{Sequence, nought, comb, pointwise}
use Rattle.poly_core.specs.Companion.{IsBelow, unit, power}
use Rattle.poly_core.specs.Image.{power-round, power-mod}
use Rattle.poly_core.specs.Companion.{power-unit}
use Rattle.poly_core.specs.Gcd.{gcd, IsGcd-gcd}
use Rattle.cyclo_core.specs.Sums.{nat_sum}
use Rattle.std.proofs.lemmas.Nat.Gcd.{same_from_IsGcd, dvd_refl}
use native.Mathlib.Nat.{dvd-mul_right}
use Prim.Native.Nat.{◌∣◌}
use Rattle.cyclo_core.specs.Fraction.{Fraction, reduce, IsProper, same, IsProper-reduce, reduce_twice}
use Rattle.cyclo_core.specs.FractionRing.{sum, negative, whole, reduce-whole, IsProper-sum, rsum_comm, rsum_assoc, rsum-zero, rsum-negative, IsProper-times, rproduct_comm, rproduct_assoc, rproduct-one, rproduct-sum, IsProper-image, rimage-sum, rimage-product, rimage-rimage, IsProper-negative, rproduct-zero}
use Rattle.poly_core.specs.Good.{Root, phi, IsGood}
use Rattle.poly_core.specs.Table.{at, all_below, all_below_at, both, P_top, P_below}
use Rattle.cyclo_core.specs.Ratio.{Ratio, most, tabulate, same_list, same_ratio, is_held, held, magnitude}
use Rattle.cyclo_core.specs.Layers.{rho_size, fraction, ratio, cyclo_ring, times, turned}

-- ---- equality by test
pub and_true : (a b : Bool) → IsTrue a → IsTrue b → IsTrue (a && b)
and_true true b p q = q
and_true false b p q = cc

same_list_is : (xs ys : List ℤ) → IsTrue (same_list xs ys) ↔ (xs ≡ ys)
same_list_is [] [] = (λ _. refl, λ _. refl)
same_list_is [] (y ∷ ys) = (λ h. cc, λ h. cc)
same_list_is (x ∷ xs) [] = (λ h. cc, λ h. cc)
same_list_is (x ∷ xs) (y ∷ ys) = (
  λ h. let p = both (int_equal x y) (same_list xs ys) h in ap₂ ◌∷◌ ((int_equal_is x y).0 p.0) ((same_list_is xs ys).0 p.1),
  λ h.
      let head : x ≡ y = cc in
      let tail : xs ≡ ys = cc in
      and_true (int_equal x y) (same_list xs ys) ((int_equal_is x y).1 head) ((same_list_is xs ys).1 tail),
)

pub same_number : (a b : ℕ) → IsTrue (nat_eq a b) ↔ (a ≡ b)
same_number a b = grind (arith, nat_tests)

pub same_ratio_is : (x y : Ratio) → IsTrue (same_ratio x y) ↔ (x ≡ y)
same_ratio_is x y = (
  λ h.
      let p = both (same_list x.numerators y.numerators) (nat_eq x.denominator y.denominator) h in
      let a = (same_list_is x.numerators y.numerators).0 p.0 in
      let b = (same_number x.denominator y.denominator).0 p.1 in
      λ t. record { numerators = a t; denominator = b t },
  λ h. and_true (same_list x.numerators y.numerators) (nat_eq x.denominator y.denominator)
      ((same_list_is x.numerators y.numerators).1 (ap (λ (v : Ratio). v.numerators) h)) ((same_number x.denominator y.denominator).1 (ap (λ (v : Ratio). v.denominator) h)),
)

-- ---- values and fractions
pub at-tabulate : (k : ℕ) (f : Sequence) (j : ℕ) → j < k → at (tabulate k f) j ≡ f j
at-tabulate zero f j lt = absurd (omega arith)
at-tabulate (suc k) f zero lt = refl
at-tabulate (suc k) f (suc j) lt = at-tabulate k (λ i. f (suc i)) j (omega arith)

pub in_front : (n j : ℕ) (x y : ℤ) → j < n → cond (ltb j n) x y ≡ x
in_front n j x y lt = let t : ltb j n ≡ true = grind (arith, nat_tests) in ap (λ b. cond b x y) t

pub behind : (n j : ℕ) (x y : ℤ) → n ≤ j → cond (ltb j n) x y ≡ y
behind n j x y le = let t : ltb j n ≡ false = grind (arith, nat_tests) in ap (λ b. cond b x y) t

pub fraction_proper : (n : ℕ) (v : Ratio) → IsProper n (fraction n v)
fraction_proper n v = record { positive = omega arith; below = record { past = λ j le. behind n j (at v.numerators j) (pos 0) le } }

pub fraction-ratio : (n : ℕ) → n ≤ 16 → (p : Fraction) → IsProper n p → fraction n (ratio p) ≡ p
fraction-ratio n small p h =
    let positive = h.positive in
    same
    (pointwise (λ j. elim (cases_lt j n) [
      | inl lt ↦ in_front n j (at (tabulate 16 p.over) j) (pos 0) lt ∙ at-tabulate 16 p.over j (omega arith)
      | inr le ↦ behind n j (at (tabulate 16 p.over) j) (pos 0) le ∙ sym (h.below.past j le)
    ]))
    (omega arith)

-- ---- a power that turns twice
twice_round : (d : ℕ) (P : Sequence) (N : ℕ) → 0 < N → power d P N ≡ power d P zero → (i : ℕ) → power d P ((N - 1) * ((N - 1) * i)) ≡ power d P i
twice_round d P zero lt round i = absurd (omega arith)
twice_round d P (suc zero) lt round i =
    let a : (suc zero - 1) * ((suc zero - 1) * i) ≡ 0 = omega arith in
    let b : 0 + i * suc zero ≡ i = omega arith in
    ap (power d P) a ∙ sym (power-round d P (suc zero) round 0 i) ∙ ap (power d P) b
twice_round d P (suc (suc m)) lt round i =
    let less : suc (suc m) - 1 ≡ suc m = omega arith in
    let a : suc m * (suc m * i) ≡ i + (m * i) * suc (suc m) = omega arith in
    ap (λ k. power d P (k * (k * i))) less ∙ ap (power d P) a ∙ power-round d P (suc (suc m)) round i (m * i)

-- ---- sums and tests of magnitudes
pub le_of : (a b : ℕ) → IsTrue (nat_le a b) → a ≤ b
le_of a b h = grind (arith, nat_tests)

pub test_of : (a b : ℕ) → a ≤ b → IsTrue (nat_le a b)
test_of a b h = grind (arith, nat_tests)

pub gcd-one : (m : ℕ) → gcd m 1 ≡ 1
gcd-one m =
    let one_divides : 1 ∣ m = subst (λ z. 1 ∣ z) (let e : 1 * m ≡ m = omega arith in e) (dvd-mul_right 1 m) in
    same_from_IsGcd m 1 _ 1 (IsGcd-gcd m 1) (one_divides, dvd_refl 1, λ e p q. q)

pub tabulate-nought : (k j : ℕ) → at (tabulate k nought) j ≡ pos 0
tabulate-nought zero j = refl
tabulate-nought (suc k) zero = refl
tabulate-nought (suc k) (suc j) = tabulate-nought k j

one_off : (b : ℕ) → (b ≡ 0 → ⊥) → unsigned_abs (at (tabulate 16 (unit zero)) b) ≡ 0
one_off zero ne = absurd (ne refl)
one_off (suc b) ne = ap unsigned_abs (tabulate-nought 15 b)

nat_sum-zeros : (m : ℕ) (f : ℕ → ℕ) → ((a : ℕ) → f a ≡ 0) → nat_sum m f ≡ 0
unfolding nat_sum
nat_sum-zeros zero f h = refl
nat_sum-zeros (suc m) f h = ap₂ ◌+◌ (nat_sum-zeros m f h) (h m)

none_before : (m : ℕ) (f : ℕ → ℕ) → ((a : ℕ) → a < m → f a ≡ 0) → nat_sum m f ≡ 0
unfolding nat_sum
none_before zero f h = refl
none_before (suc m) f h = ap₂ ◌+◌ (none_before m f (λ a lt. h a (omega arith))) (h m (omega arith))

-- one term alone
nat_sum-only : (m : ℕ) (f : ℕ → ℕ) (j : ℕ) → j < m → ((a : ℕ) → a < m → (a ≡ j → ⊥) → f a ≡ 0) → nat_sum m f ≡ f j
unfolding nat_sum
nat_sum-only zero f j lt h = absurd (omega arith)
nat_sum-only (suc m) f j lt h =
    elim (cases_eq m j) [
      | inl e ↦ ap₂ ◌+◌ (none_before m f (λ a below. h a (omega arith) (λ same_a. omega arith))) (ap f e) ∙ omega arith
      | inr ne ↦ ap₂ ◌+◌ (nat_sum-only m f j (omega arith) (λ a below. h a (omega arith))) (h m (omega arith) ne) ∙ omega arith
    ]

unit_at : (i : ℕ) → unit i i ≡ pos 1
unit_at zero = refl
unit_at (suc i) = unit_at i

unit_off : (i j : ℕ) → (i ≡ j → ⊥) → unit i j ≡ pos 0
unit_off zero zero h = absurd (h refl)
unit_off zero (suc j) h = refl
unit_off (suc i) zero h = refl
unit_off (suc i) (suc j) h = unit_off i j (λ e. h (ap suc e))

module _ (r : Root) (g : IsGood r) where
  abbrev n : ℕ
  n = suc r.less_one

  abbrev R : Ring Ratio
  R = cyclo_ring r

  abbrev F : Ratio → Fraction
  F x = fraction n x

  abbrev d : ℕ
  d = r.less_one

  abbrev P : Sequence
  P = phi r

  abbrev k : ℕ
  k = r.order - 1

  root_k : comb (suc (suc d)) P (λ i. power d P (k * i)) ≡ nought
  root_k = let positive = g.positive in g.root k (omega arith) g.turned

  top : P (suc d) ≡ pos 1
  top = P_top r.low d g.full

  low : IsBelow (suc (suc d)) P
  low = P_below r.low d g.full

  fp : (x : Ratio) → IsProper n (F x)
  fp x = fraction_proper n x

  pub back : (q : Fraction) → IsProper n q → F (ratio (reduce n q)) ≡ reduce n q
  back q h = fraction-ratio n g.small (reduce n q) (IsProper-reduce n q h)

  pub member_of : (q : Fraction) → IsProper n q → IsTrue (R.member (ratio (reduce n q)))
  member_of q h = (same_ratio_is _ _).1 (ap ratio (sym (ap (reduce n) (back q h) ∙ reduce_twice n q h)))

  pub itself : (x : Ratio) → IsTrue (R.member x) → ratio (reduce n (F x)) ≡ x
  itself x m = sym ((same_ratio_is _ _).0 m)

  pub zero_proper : IsProper n (whole nought)
  zero_proper = record { positive = omega arith; below = record { past = λ j le. refl } }

  pub one_proper : IsProper n (whole (unit zero))
  one_proper = record { positive = omega arith; below = record { past = past } }
    where
      past : (j : ℕ) → n ≤ j → unit zero j ≡ pos 0
      past zero le = absurd (omega arith)
      past (suc j) le = refl

  pub zero_back : F (ratio (whole nought)) ≡ whole nought
  zero_back = fraction-ratio n g.small (whole nought) zero_proper

  pub one_back : F (ratio (whole (unit zero))) ≡ whole (unit zero)
  one_back = fraction-ratio n g.small (whole (unit zero)) one_proper

  pub ps : (x y : Ratio) → IsProper n (sum (F x) (F y))
  ps x y = IsProper-sum n (F x) (F y) (fp x) (fp y)

  pub pt : (x y : Ratio) → IsProper n (times r (F x) (F y))
  pt x y = IsProper-times d P top low (F x) (F y) (fp x) (fp y)

  pc : (x : Ratio) → IsProper n (turned r (F x))
  pc x = IsProper-image d P top low k root_k (F x) (fp x)

  member_whole : (f : Sequence) → IsProper n (whole f) → IsTrue (R.member (ratio (whole f)))
  member_whole f h = let b = h.below in subst (λ q. IsTrue (R.member (ratio q))) (reduce-whole n f b) (member_of (whole f) h)

  pub all_of : (m : ℕ) (p : ℕ → Bool) → ((j : ℕ) → j < m → IsTrue (p j)) → IsTrue (all_below m p)
  all_of zero p h = refl
  all_of (suc m) p h = and_true (p m) (all_below m p) (h m (omega arith)) (all_of m p (λ j lt. h j (omega arith)))

  -- ---- what fits
  magnitude_held : (x : Ratio) → IsTrue (held.can_hold x) → (j : ℕ) → j < n → magnitude x j ≤ most
  unfolding is_held
  magnitude_held x h j lt =
      let small = g.small in
      let p = both (all_below 16 (λ i. nat_le (magnitude x i) most)) (nat_le x.denominator most) h in
      le_of (magnitude x j) most (all_below_at 16 (λ i. nat_le (magnitude x i) most) p.0 j (omega arith))

  denominator_held : (x : Ratio) → IsTrue (held.can_hold x) → x.denominator ≤ most
  unfolding is_held
  denominator_held x h =
      let p = both (all_below 16 (λ i. nat_le (magnitude x i) most)) (nat_le x.denominator most) h in
      le_of x.denominator most p.1

  sum-zero_fit : (x : Ratio) → IsTrue (held.can_hold x) → IsTrue (R.sum_fits x R.zero)
  sum-zero_fit x h =
      let m = gcd x.denominator 1 in
      let alone : 1 / m ≡ 1 = ap (λ z. 1 / z) (gcd-one x.denominator) in
      and_true (all_below n (λ j. nat_le (magnitude x j * (1 / m) + magnitude R.zero j * (x.denominator / m)) most)) (nat_le (x.denominator * (1 / m)) most)
      (all_of n (λ j. nat_le (magnitude x j * (1 / m) + magnitude R.zero j * (x.denominator / m)) most) (λ j lt.
      let none : magnitude R.zero j ≡ 0 = ap unsigned_abs (tabulate-nought 16 j) in
      test_of (magnitude x j * (1 / m) + magnitude R.zero j * (x.denominator / m)) most (omega (arith, magnitude_held x h j lt, ap (λ z. magnitude x j * z) alone, ap (λ z. z * (x.denominator / m)) none))))
      (test_of (x.denominator * (1 / m)) most (omega (arith, denominator_held x h, ap (λ z. x.denominator * z) alone)))

  abbrev size : Ratio → Ratio → ℕ → ℕ → ℕ → ℕ
  size x y j a b = magnitude x a * magnitude y b * rho_size r (a + b) j

  product-zero_fit : (x : Ratio) → IsTrue (held.can_hold x) → IsTrue (R.product_fits x R.zero)
  product-zero_fit x h =
      and_true (all_below n (λ j. nat_le (nat_sum n (λ a. nat_sum n (size x R.zero j a))) most)) (nat_le (x.denominator * 1) most)
      (all_of n (λ j. nat_le (nat_sum n (λ a. nat_sum n (size x R.zero j a))) most) (λ j lt.
      let none : nat_sum n (λ a. nat_sum n (size x R.zero j a)) ≡ 0 =
      nat_sum-zeros n _ (λ a. nat_sum-zeros n _ (λ b.
      let nought_b : magnitude R.zero b ≡ 0 = ap unsigned_abs (tabulate-nought 16 b) in
      ap (λ z. magnitude x a * z * rho_size r (a + b) j) nought_b ∙ omega arith)) in
      test_of (nat_sum n (λ a. nat_sum n (size x R.zero j a))) most (omega (arith, none))))
      (test_of (x.denominator * 1) most (omega (arith, denominator_held x h)))

  rho_own : (a j : ℕ) → a < n → rho_size r a j ≡ unsigned_abs (unit a j)
  rho_own a j lt = ap (λ (f : Sequence). unsigned_abs (f j)) (power-mod d P r.order g.round a ∙ power-unit d P a (omega arith))

  -- the size of a product with one
  size-one : (x : Ratio) (j : ℕ) → j < n → nat_sum n (λ a. nat_sum n (size x R.one j a)) ≡ magnitude x j
  size-one x j lt =
      let inner : (a : ℕ) → nat_sum n (size x R.one j a) ≡ magnitude x a * 1 * rho_size r (a + 0) j =
      λ a. nat_sum-only n (size x R.one j a) 0 (omega arith) (λ b below ne.
      let none : magnitude R.one b ≡ 0 = one_off b ne in
      ap (λ z. magnitude x a * z * rho_size r (a + b) j) none ∙ omega arith) in
      let same_a : (a : ℕ) → a + 0 ≡ a = λ a. omega arith in
      let term : (a : ℕ) → a < n → nat_sum n (size x R.one j a) ≡ magnitude x a * 1 * unsigned_abs (unit a j) =
      λ a below. inner a ∙ ap (λ z. magnitude x a * 1 * rho_size r z j) (same_a a) ∙ ap (λ z. magnitude x a * 1 * z) (rho_own a j below) in
      nat_sum-only n (λ a. nat_sum n (size x R.one j a)) j lt
      (λ a below ne. term a below ∙ ap (λ z. magnitude x a * 1 * unsigned_abs z) (unit_off a j ne) ∙ omega arith)
      ∙ term j lt ∙ ap (λ z. magnitude x j * 1 * unsigned_abs z) (unit_at j) ∙ omega arith

  product-one_fit : (x : Ratio) → IsTrue (held.can_hold x) → IsTrue (R.product_fits x R.one)
  product-one_fit x h =
      and_true (all_below n (λ j. nat_le (nat_sum n (λ a. nat_sum n (size x R.one j a))) most)) (nat_le (x.denominator * 1) most)
      (all_of n (λ j. nat_le (nat_sum n (λ a. nat_sum n (size x R.one j a))) most) (λ j lt. test_of (nat_sum n (λ a. nat_sum n (size x R.one j a))) most (omega (arith, size-one x j lt, magnitude_held x h j lt))))
      (test_of (x.denominator * 1) most (omega (arith, denominator_held x h)))

  pub cyclo_laws : RingLaws (cyclo_ring r) held
  cyclo_laws = record {
    zero_is = member_whole nought zero_proper;
    one_is = member_whole (unit zero) one_proper;
    sum_is = λ x y. member_of (sum (F x) (F y)) (ps x y);
    product_is = λ x y. member_of (times r (F x) (F y)) (pt x y);
    negative_is = λ x. member_of (negative (F x)) (IsProper-negative n (F x) (fp x));
    conjugate_is = λ x. member_of (turned r (F x)) (pc x);
    sum-zero = λ x m. ap (λ w. ratio (reduce n (sum (F x) w))) zero_back ∙ ap ratio (rsum-zero n (F x)) ∙ itself x m;
    sum_comm = λ x y. ap ratio (rsum_comm n (F x) (F y));
    sum_assoc = λ x y z.
        ap (λ w. ratio (reduce n (sum w (F z)))) (back (sum (F x) (F y)) (ps x y))
        ∙ ap ratio (rsum_assoc n (F x) (F y) (F z) (fp x) (fp y) (fp z))
        ∙ sym (ap (λ w. ratio (reduce n (sum (F x) w))) (back (sum (F y) (F z)) (ps y z)));
    sum-negative = λ x.
        ap (λ w. ratio (reduce n (sum (F x) w))) (back (negative (F x)) (IsProper-negative n (F x) (fp x))) ∙ ap ratio (rsum-negative n (F x) (fp x));
    product-one = λ x m. ap (λ w. ratio (reduce n (times r (F x) w))) one_back ∙ ap ratio (rproduct-one d P top low (F x) (fp x)) ∙ itself x m;
    product-zero = λ x. ap (λ w. ratio (reduce n (times r (F x) w))) zero_back ∙ ap ratio (rproduct-zero d P top low (F x) (fp x));
    product_comm = λ x y. ap ratio (rproduct_comm d P top low (F x) (F y));
    product_assoc = λ x y z.
        ap (λ w. ratio (reduce n (times r w (F z)))) (back (times r (F x) (F y)) (pt x y))
        ∙ ap ratio (rproduct_assoc d P top low (F x) (F y) (F z) (fp x) (fp y) (fp z))
        ∙ sym (ap (λ w. ratio (reduce n (times r (F x) w))) (back (times r (F y) (F z)) (pt y z)));
    product-sum = λ x y z.
        ap (λ w. ratio (reduce n (times r (F x) w))) (back (sum (F y) (F z)) (ps y z))
        ∙ ap ratio (rproduct-sum d P top low (F x) (F y) (F z) (fp x) (fp y) (fp z))
        ∙ sym (ap₂ (λ v w. ratio (reduce n (sum v w))) (back (times r (F x) (F y)) (pt x y)) (back (times r (F x) (F z)) (pt x z)));
    conjugate-conjugate = λ x m.
        ap (λ w. ratio (reduce n (turned r w))) (back (turned r (F x)) (pc x))
        ∙ ap ratio (rimage-rimage d P top low k root_k (twice_round d P r.order g.positive g.round) (F x) (fp x)) ∙ itself x m;
    conjugate-sum = λ x y.
        ap (λ w. ratio (reduce n (turned r w))) (back (sum (F x) (F y)) (ps x y))
        ∙ ap ratio (rimage-sum d P top low k root_k (F x) (F y) (fp x) (fp y))
        ∙ sym (ap₂ (λ v w. ratio (reduce n (sum v w))) (back (turned r (F x)) (pc x)) (back (turned r (F y)) (pc y)));
    conjugate-product = λ x y.
        ap (λ w. ratio (reduce n (turned r w))) (back (times r (F x) (F y)) (pt x y))
        ∙ ap ratio (rimage-product d P top low k root_k (F x) (F y) (fp x) (fp y))
        ∙ sym (ap₂ (λ v w. ratio (reduce n (times r v w))) (back (turned r (F x)) (pc x)) (back (turned r (F y)) (pc y)));
    one_apart = λ e. let h : pos 1 ≡ pos 0 = ap (λ (v : Ratio). at v.numerators 0) e in cc;
    equal_is = same_ratio_is;
    is_zero_is = λ x m. same_ratio_is x (ratio (whole nought));
    sum-zero_fits = λ x m h. sum-zero_fit x h;
    product-zero_fits = λ x m h. product-zero_fit x h;
    product-one_fits = λ x m h. product-one_fit x h;
  }
