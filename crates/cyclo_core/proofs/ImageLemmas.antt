-- The laws of images.
use Rattle.std.proofs.Common.{◌≡◌, ℕ, zero, suc, ◌+◌, ◌*◌, ◌-◌, ◌%◌, ◌≤◌, refl, sym, ap, ap₂, ◌∙◌, subst, arith}
use Rattle.std.specs.Prelude.{pos, negsuc, ◌*ℤ◌, unsigned_abs, IsTrue, nat_le}
use Rattle.std.proofs.lemmas.Nat.{mod_below, mul-mod_first}
use Rattle.std.proofs.Math.Nat.{mod-mod, mod_self, zero-mod, add-mul-mod_self_right}
use Rattle.std.proofs.lemmas.Nat.Gcd.{IsGcd-swap, IsGcd-from_mod, same_from_IsGcd}
use Rattle.ring_laws.specs.Ring.{Ring}
use Rattle.poly_core.specs.Combination.{Sequence, nought, comb, pointwise, Linear, Linear-comb, linear-comb, linear-nought, comb-family}
use Rattle.poly_core.specs.Companion.{IsBelow, unit, power, power-below, expand}
use Rattle.poly_core.specs.Gcd.{gcd, IsGcd-gcd}
use Rattle.poly_core.specs.Good.{Root, IsGood, phi}
use Rattle.poly_core.specs.Image.{image, image-power, power-mod}
use Rattle.poly_core.specs.Rho.{degree, order, rho}
use Rattle.poly_core.specs.Roots.{root_at, IsGood-root_at}
use Rattle.poly_core.specs.Table.{at, all_below, P_top, P_below}
use Rattle.poly_core.proofs.RhoLemmas.{degree_within}
use Rattle.cyclo_core.specs.CycloLaws.{fraction_proper, fraction-ratio, gcd-one, in_front, member_of, back, itself, zero_proper, one_proper, zero_back, one_back, ps, pt}
use Rattle.cyclo_core.specs.Fraction.{Fraction, reduce, IsProper, reduce-absorb, same, swap_left}
use Rattle.cyclo_core.specs.FractionRing.{sum, negative, whole, reduce-whole, IsProper-negative, IsProper-image, image_form, rimage-sum, rimage-product}
use Rattle.cyclo_core.specs.Image.{image_of, image_over, image_size, image_fits, power_of}
use Rattle.cyclo_core.specs.ImageLaws.{IsStarMap}
use Rattle.cyclo_core.specs.Layers.{fraction, ratio, cyclo_ring, times}
use Rattle.cyclo_core.specs.Ratio.{Ratio, most, reduced, under, conjugate_size, ring_at}
use Rattle.cyclo_core.specs.RingAt.{comb-sum, int_sum-same, reduced_is, ring_is}
use Rattle.cyclo_core.proofs.SumLemmas.{nat_sum-same}

-- z^k is a zero of Phi_N
abbrev pub IsRoot : Root → ℕ → Type 0
IsRoot r k = comb (suc (suc r.less_one)) (phi r) (λ i. power r.less_one (phi r) (k * i)) ≡ nought

-- a fraction with z^k put for z
abbrev pub put : Root → ℕ → Fraction → Fraction
put r k p = record { over = image r.less_one (phi r) k p.over; under = p.under }

-- an image by layers
abbrev pub image_by : Root → ℕ → Ratio → Ratio
image_by r k x = ratio (reduce (suc r.less_one) (put r k (fraction (suc r.less_one) x)))

-- ---- exponents modulo N
mul_same : (k m i N : ℕ) → k % N ≡ m % N → (k * i) % N ≡ (m * i) % N
mul_same k m i N e = sym (mul-mod_first k i N) ∙ ap (λ z. (z * i) % N) e ∙ mul-mod_first m i N

gcd-mod : (k n : ℕ) → gcd (k % n) n ≡ gcd k n
gcd-mod k n = same_from_IsGcd k n _ _ (IsGcd-from_mod k n _ (IsGcd-swap (k % n) n _ (IsGcd-gcd (k % n) n))) (IsGcd-gcd k n)

-- where m divides k l less 1 and k l' less 1, it divides l less l'
pub same_inverse : (k l l' m : ℕ) → (k * l) % m ≡ 1 % m → (k * l') % m ≡ 1 % m → l % m ≡ l' % m
same_inverse k l l' m e e' =
    let once : (i : ℕ) → i ≡ 1 * i = λ i. omega arith in
    let turned : (k * l') * l ≡ (k * l) * l' = omega arith in
    ap (λ z. z % m) (once l) ∙ mul_same 1 (k * l') l m (sym e') ∙ ap (λ z. z % m) turned ∙ mul_same (k * l) 1 l' m e ∙ ap (λ z. z % m) (sym (once l'))

pub same_units : (l l' m : ℕ) → l % m ≡ l' % m → gcd l' m ≡ 1 → gcd l m ≡ 1
same_units l l' m e h = sym (gcd-mod l m) ∙ ap (λ z. gcd z m) e ∙ gcd-mod l' m ∙ h

-- a power of z^-1
turned_back : (a m : ℕ) → a ≤ m → (m - a) % m ≡ (a * (m - 1)) % m
turned_back zero m le =
    let whole : m - zero ≡ m = omega arith in
    let none : zero * (m - 1) ≡ 0 = omega arith in
    ap (λ z. z % m) whole ∙ mod_self m ∙ sym (ap (λ z. z % m) none ∙ zero-mod m)
turned_back (suc a) m le =
    let b : ℕ = m - suc a in
    let whole : m ≡ b + suc a = omega arith in
    let less : m - 1 ≡ b + a = omega arith in
    let e : suc a * (m - 1) ≡ b + a * m = ap (λ z. suc a * z) less ∙ turned b a ∙ ap (λ z. b + a * z) (sym whole) in
    sym (ap (λ z. z % m) e ∙ add-mul-mod_self_right b a m)
  where
    turned : (b a : ℕ) → suc a * (b + a) ≡ b + a * (b + suc a)
    turned b a = omega arith

module _ (r : Root) (g : IsGood r) where
  abbrev d : ℕ
  d = r.less_one

  abbrev n : ℕ
  n = suc r.less_one

  abbrev P : Sequence
  P = phi r

  abbrev F : Ratio → Fraction
  F x = fraction n x

  top : P (suc d) ≡ pos 1
  top = P_top r.low d g.full

  low : IsBelow (suc (suc d)) P
  low = P_below r.low d g.full

  fp : (x : Ratio) → IsProper n (F x)
  fp x = fraction_proper n x

  power_same : (a b : ℕ) → a % r.order ≡ b % r.order → power d P a ≡ power d P b
  power_same a b e = sym (power-mod d P r.order g.round a) ∙ ap (power d P) e ∙ power-mod d P r.order g.round b

  root_same : (k m : ℕ) → k % r.order ≡ m % r.order → IsRoot r k → IsRoot r m
  root_same k m e root = comb-family (suc (suc d)) P _ _ (λ i. power_same (m * i) (k * i) (sym (mul_same k m i r.order e))) ∙ root

  pub unit_root : (k : ℕ) → gcd k r.order ≡ 1 → IsRoot r k
  unit_root k unit_k = root_same (k % r.order) k (mod-mod k r.order) (g.root (k % r.order) (mod_below k r.order g.positive) (gcd-mod k r.order ∙ unit_k))

  pub root_product : (k l : ℕ) → IsRoot r k → IsRoot r l → IsRoot r (k * l)
  root_product k l root_k root_l =
      let L = Linear-comb n (λ i. power d P (k * i)) in
      comb-family (suc (suc d)) P _ _ (λ i. ap (power d P) (omega arith) ∙ sym (image-power d P top low k root_k (l * i)))
      ∙ sym (linear-comb (image d P k) L (suc (suc d)) P (λ i. power d P (l * i)))
      ∙ ap (image d P k) root_l ∙ linear-nought (image d P k) L

  -- the image by k and then by l, of coefficients
  put_twice : (k l m : ℕ) → IsRoot r l → m % r.order ≡ (k * l) % r.order → (f : Sequence) → image d P l (image d P k f) ≡ image d P m f
  put_twice k l m root_l e f =
      linear-comb (image d P l) (Linear-comb n (λ i. power d P (l * i))) n f (λ i. power d P (k * i))
      ∙ comb-family n f _ _ (λ i.
      let turned : l * (k * i) ≡ (k * l) * i = omega arith in
      image-power d P top low l root_l (k * i) ∙ ap (power d P) turned ∙ power_same ((k * l) * i) (m * i) (sym (mul_same m (k * l) i r.order e)))

  module _ (k : ℕ) (root : IsRoot r k) where
    L : Linear (image d P k)
    L = Linear-comb n (λ i. power d P (k * i))

    pub put_proper : (p : Fraction) → IsProper n p → IsProper n (put r k p)
    put_proper p h = IsProper-image d P top low k root p h

    pi : (x : Ratio) → IsProper n (put r k (F x))
    pi x = put_proper (F x) (fp x)

    pub image-zero : image_by r k (ratio (whole nought)) ≡ ratio (whole nought)
    image-zero =
        let z = zero_proper r g in
        ap (λ w. ratio (reduce n (put r k w))) (zero_back r g)
        ∙ ap (λ f. ratio (reduce n (whole f))) (linear-nought (image d P k) L)
        ∙ ap ratio (reduce-whole n nought z.below)

    pub image-one : image_by r k (ratio (whole (unit zero))) ≡ ratio (whole (unit zero))
    image-one =
        let o = one_proper r g in
        let none : k * zero ≡ 0 = omega arith in
        ap (λ w. ratio (reduce n (put r k w))) (one_back r g)
        ∙ ap (λ f. ratio (reduce n (whole f))) (image-power d P top low k root zero ∙ ap (power d P) none)
        ∙ ap ratio (reduce-whole n (unit zero) o.below)

    pub image-sum : (x y : Ratio) → image_by r k ((cyclo_ring r).sum x y) ≡ (cyclo_ring r).sum (image_by r k x) (image_by r k y)
    image-sum x y =
        ap (λ w. ratio (reduce n (put r k w))) (back r g (sum (F x) (F y)) (ps r g x y))
        ∙ ap ratio (rimage-sum d P top low k root (F x) (F y) (fp x) (fp y))
        ∙ sym (ap₂ (λ v w. ratio (reduce n (sum v w))) (back r g (put r k (F x)) (pi x)) (back r g (put r k (F y)) (pi y)))

    pub image-product : (x y : Ratio) → image_by r k ((cyclo_ring r).product x y) ≡ (cyclo_ring r).product (image_by r k x) (image_by r k y)
    image-product x y =
        ap (λ w. ratio (reduce n (put r k w))) (back r g (times r (F x) (F y)) (pt r g x y))
        ∙ ap ratio (rimage-product d P top low k root (F x) (F y) (fp x) (fp y))
        ∙ sym (ap₂ (λ v w. ratio (reduce n (times r v w))) (back r g (put r k (F x)) (pi x)) (back r g (put r k (F y)) (pi y)))

    negative_form : (p : Fraction) → IsProper n p → reduce n (negative (reduce n p)) ≡ reduce n (negative p)
    negative_form p h = reduce-absorb n negative (λ m q. same (pointwise (λ j. swap_left (negsuc 0) (pos m) (q.over j))) refl) (IsProper-negative n) p h

    pub image-negative : (x : Ratio) → image_by r k ((cyclo_ring r).negative x) ≡ (cyclo_ring r).negative (image_by r k x)
    image-negative x =
        let h = IsProper-negative n (F x) (fp x) in
        ap (λ w. ratio (reduce n (put r k w))) (back r g (negative (F x)) h)
        ∙ ap ratio (image_form d P top low k root (negative (F x)) h
        ∙ ap (reduce n) (same (L.scale (negsuc 0) (Fraction.over (F x))) refl)
        ∙ sym (negative_form (put r k (F x)) (pi x)))
        ∙ sym (ap (λ w. ratio (reduce n (negative w))) (back r g (put r k (F x)) (pi x)))

    pub image-power_of : (a : ℕ) → image_by r k (ratio (whole (power d P a))) ≡ ratio (whole (power d P (a * k)))
    image-power_of a =
        let proper : (b : ℕ) → IsProper n (whole (power d P b)) = λ b. record { positive = omega arith; below = power-below d P top low b } in
        let turned : k * a ≡ a * k = omega arith in
        ap (λ w. ratio (reduce n (put r k w))) (fraction-ratio n g.small (whole (power d P a)) (proper a))
        ∙ ap (λ f. ratio (reduce n (whole f))) (image-power d P top low k root a ∙ ap (power d P) turned)
        ∙ ap ratio (reduce-whole n (power d P (a * k)) (power-below d P top low (a * k)))

  pub image-image : (k l m : ℕ) → IsRoot r k → IsRoot r l → m % r.order ≡ (k * l) % r.order → (x : Ratio) → image_by r l (image_by r k x) ≡ image_by r m x
  image-image k l m root_k root_l e x =
      let h = put_proper k root_k (F x) (fp x) in
      ap (λ w. ratio (reduce n (put r l w))) (back r g (put r k (F x)) h)
      ∙ ap ratio (image_form d P top low l root_l (put r k (F x)) h
      ∙ ap (reduce n) (same (put_twice k l m root_l e (Fraction.over (F x))) refl))

  pub image-by_one : (x : Ratio) → IsTrue ((cyclo_ring r).member x) → image_by r 1 x ≡ x
  image-by_one x m =
      let h = fp x in
      ap (λ f. ratio (reduce n (record { over = f; under = Fraction.under (F x) })))
      (comb-family n (Fraction.over (F x)) _ _ (λ i. ap (power d P) (omega arith)) ∙ expand d P (Fraction.over (F x)) h.below)
      ∙ itself r g x m

  pub star_map : (k : ℕ) → IsRoot r k → IsStarMap (cyclo_ring r) (image_by r k)
  star_map k root =
      let positive = g.positive in
      let turned = unit_root (r.order - 1) g.turned in
      let around : ((r.order - 1) * k) % r.order ≡ (k * (r.order - 1)) % r.order = ap (λ z. z % r.order) (omega arith) in
      record {
        member = λ x. member_of r g (put r k (F x)) (put_proper k root (F x) (fp x));
        zero = image-zero k root;
        one = image-one k root;
        sum = image-sum k root;
        product = image-product k root;
        negative = image-negative k root;
        conjugate = λ x.
            image-image (r.order - 1) k ((r.order - 1) * k) turned root refl x
            ∙ sym (image-image k (r.order - 1) ((r.order - 1) * k) root turned around x);
      }

-- ---- of a number N
module _ (N : ℕ) where
  abbrev rN : Root
  rN = root_at N

  gN : IsGood rN
  gN = IsGood-root_at N

  numerators_are : (k : ℕ) (x : Ratio) → image (Root.less_one rN) (phi rN) k (Fraction.over (fraction (suc (Root.less_one rN)) x)) ≡ image_over N k (at x.numerators)
  unfolding degree rho order
  numerators_are k x =
      let r = rN in
      let g = gN in
      let e : ℕ = r.less_one in
      let m : ℕ = suc r.less_one in
      let Q = phi r in
      pointwise (λ j. comb-sum m (Fraction.over (fraction m x)) (λ i. power e Q (k * i)) j ∙ int_sum-same m _ _ (λ a lt.
      let turned : k * a ≡ a * k = omega arith in
      ap (λ z. z *ℤ power e Q (k * a) j) (in_front m a (at x.numerators a) (pos 0) lt)
      ∙ ap (λ (f : Sequence). at x.numerators a *ℤ f j) (ap (power e Q) turned ∙ sym (power-mod e Q r.order g.round (a * k)))))

  pub image_is : (k : ℕ) → IsRoot rN k → (x : Ratio) → image_of N k x ≡ image_by rN k x
  unfolding degree
  image_is k root x =
      let g = gN in
      let m : ℕ = suc (Root.less_one rN) in
      ap (λ (f : Sequence). reduced f (under x)) (sym (numerators_are k x))
      ∙ reduced_is m (put rN k (fraction m x)) g.small (put_proper rN g k root (fraction m x) (fraction_proper m x))

  pub power_is : (a : ℕ) → power_of N a ≡ ratio (whole (power (Root.less_one rN) (phi rN) a))
  unfolding rho order
  power_is a =
      let r = rN in
      let g = gN in
      ap (λ (f : Sequence). ratio (whole f)) (power-mod r.less_one (phi r) r.order g.round a)

  pub star_maps : (k : ℕ) → gcd k (order N) ≡ 1 → IsStarMap (ring_at N) (image_of N k)
  unfolding order
  star_maps k unit_k =
      let root = unit_root rN gN k unit_k in
      let same_maps : image_of N k ≡ image_by rN k = λ t x. image_is k root x t in
      subst (λ (F : Ratio → Ratio). IsStarMap (ring_at N) F) (sym same_maps)
      (subst (λ (R : Ring Ratio). IsStarMap R (image_by rN k)) (sym (ring_is N)) (star_map rN gN k root))

  pub send_powers : (k a : ℕ) → gcd k (order N) ≡ 1 → image_of N k (power_of N a) ≡ power_of N (a * k)
  unfolding order
  send_powers k a unit_k =
      let root = unit_root rN gN k unit_k in
      image_is k root (power_of N a) ∙ ap (image_by rN k) (power_is a) ∙ image-power_of rN gN k root a ∙ sym (power_is (a * k))

  pub compose : (k l m : ℕ) → gcd k (order N) ≡ 1 → gcd l (order N) ≡ 1 → m % order N ≡ (k * l) % order N → (x : Ratio) → image_of N l (image_of N k x) ≡ image_of N m x
  unfolding order
  compose k l m unit_k unit_l e x =
      let root_k = unit_root rN gN k unit_k in
      let root_l = unit_root rN gN l unit_l in
      let root_m = root_same rN gN (k * l) m (sym e) (root_product rN gN k l root_k root_l) in
      image_is l root_l (image_of N k x) ∙ ap (image_by rN l) (image_is k root_k x)
      ∙ image-image rN gN k l m root_k root_l e x ∙ sym (image_is m root_m x)

  pub by_one : (x : Ratio) → IsTrue ((ring_at N).member x) → image_of N 1 x ≡ x
  unfolding order
  by_one x m =
      let one : gcd 1 (Root.order rN) ≡ 1 = gcd-one_left (Root.order rN) in
      image_is 1 (unit_root rN gN 1 one) x ∙ image-by_one rN gN x (subst (λ (R : Ring Ratio). IsTrue (R.member x)) (ring_is N) m)
    where
      gcd-one_left : (m : ℕ) → gcd 1 m ≡ 1
      gcd-one_left m = same_from_IsGcd 1 m _ _ (IsGcd-gcd 1 m) (IsGcd-swap m 1 _ (IsGcd-gcd m 1)) ∙ gcd-one m

  pub conjugate_is : (x : Ratio) → (ring_at N).conjugate x ≡ image_of N (order N - 1) x
  unfolding order
  conjugate_is x =
      let g = gN in
      ap (λ (R : Ring Ratio). R.conjugate x) (ring_is N) ∙ sym (image_is (Root.order rN - 1) (unit_root rN gN (Root.order rN - 1) g.turned) x)

  conjugate_size_is : (x : Sequence) (j : ℕ) → conjugate_size N x j ≡ image_size N (order N - 1) x j
  conjugate_size_is x j =
      nat_sum-same (degree N) _ _ (λ a lt. ap (λ m. unsigned_abs (x a) * unsigned_abs (rho N m j)) (turned_back a (order N) (omega (arith, degree_within N))))

  pub conjugate_fits_is : (x : Ratio) → (ring_at N).conjugate_fits x ≡ image_fits N (order N - 1) x
  conjugate_fits_is x = ap (λ (size : ℕ → ℕ). all_below (degree N) (λ j. nat_le (size j) most)) (λ t j. conjugate_size_is (at x.numerators) j t)
