-- Fractions of polynomials modulo a monic polynomial of degree d + 1 are a ring, each in its one form.
use Rattle.std.proofs.Common.{◌≡◌, ℕ, zero, suc, ◌+◌, ◌*◌, ◌/◌, ◌<◌, refl, sym, ap, ap₂, ◌∙◌, arith}
use Rattle.std.specs.Prelude.{ℤ, pos, negsuc, ◌+ℤ◌, ◌*ℤ◌, neg_ℤ}
use Rattle.std.proofs.lemmas.Int.{ints}
use Rattle.poly_core.specs.Combination.{Sequence, plus, times, nought, comb, pointwise, Linear, linear-nought, Linear-comb, linear-comb, comb-family}
use Rattle.poly_core.specs.Companion.{IsBelow, unit, power, product, product_comm, product_assoc, one-product, Linear-product, power-below, expand}
use Rattle.poly_core.specs.Image.{image, image-product, image-power}
use Rattle.cyclo_core.specs.Fraction.{Fraction, scale, common, reduce, IsProper, same, product_pos, reduce-back, IsProper-reduce, reduce-scale, reduce-absorb, ring_rules}

-- the sum of two fractions, before it is reduced
abbrev pub sum : Fraction → Fraction → Fraction
sum p q = record { over = plus (times (pos q.under) p.over) (times (pos p.under) q.over); under = p.under * q.under }

-- the negative
abbrev pub negative : Fraction → Fraction
negative p = record { over = times (negsuc 0) p.over; under = p.under }

-- a sequence over 1
abbrev pub whole : Sequence → Fraction
whole f = record { over = f; under = 1 }

-- of numbers alone
sums_scaled : (k e f d h : ℤ) → e *ℤ (k *ℤ f) +ℤ (k *ℤ d) *ℤ h ≡ k *ℤ (e *ℤ f +ℤ d *ℤ h)
sums_scaled k e f d h = simp ring_rules

sums_regrouped : (u v w f h g : ℤ) → w *ℤ (v *ℤ f +ℤ u *ℤ h) +ℤ (u *ℤ v) *ℤ g ≡ (v *ℤ w) *ℤ f +ℤ u *ℤ (w *ℤ h +ℤ v *ℤ g)
sums_regrouped u v w f h g = simp ring_rules

sums_spread : (d e c y z : ℤ) → (d *ℤ c) *ℤ y +ℤ (d *ℤ e) *ℤ z ≡ d *ℤ (c *ℤ y +ℤ e *ℤ z)
sums_spread d e c y z = simp ring_rules

less_itself : (d f : ℤ) → d *ℤ f +ℤ d *ℤ (negsuc 0 *ℤ f) ≡ pos 0
less_itself d f =
    let minus : negsuc 0 *ℤ f ≡ neg_ℤ f = omega (arith, ints) in
    let none : f +ℤ neg_ℤ f ≡ pos 0 = omega (arith, ints) in
    let out : d *ℤ (f +ℤ negsuc 0 *ℤ f) ≡ d *ℤ f +ℤ d *ℤ (negsuc 0 *ℤ f) = simp ring_rules in
    sym out ∙ ap (λ z. d *ℤ (f +ℤ z)) minus ∙ ap (λ z. d *ℤ z) none ∙ omega (arith, ints)

negative_scaled : (k f : ℤ) → negsuc 0 *ℤ (k *ℤ f) ≡ k *ℤ (negsuc 0 *ℤ f)
negative_scaled k f = simp ring_rules

-- of fractions
sum_comm : (p q : Fraction) → sum p q ≡ sum q p
sum_comm p q = same (pointwise (λ j. omega (arith, ints))) (omega arith)

sum_assoc : (p q r : Fraction) → sum (sum p q) r ≡ sum p (sum q r)
sum_assoc p q r = same (pointwise (λ j. sums_regrouped (pos p.under) (pos q.under) (pos r.under) (p.over j) (q.over j) (r.over j))) (omega arith)

sum-scale : (k : ℕ) (p q : Fraction) → sum (scale k p) q ≡ scale k (sum p q)
sum-scale k p q = same (pointwise (λ j. sums_scaled (pos k) (pos q.under) (p.over j) (pos p.under) (q.over j))) (omega arith)

below_plus : (n : ℕ) (a b : ℤ) (f g : Sequence) → IsBelow n f → IsBelow n g → IsBelow n (plus (times a f) (times b g))
below_plus n a b f g p q = record { past = λ j le. ap₂ (λ y z. a *ℤ y +ℤ b *ℤ z) (p.past j le) (q.past j le) ∙ omega (arith, ints) }

below_times : (n : ℕ) (a : ℤ) (f : Sequence) → IsBelow n f → IsBelow n (times a f)
below_times n a f p = record { past = λ j le. ap (λ z. a *ℤ z) (p.past j le) ∙ omega (arith, ints) }

pub IsProper-sum : (n : ℕ) (p q : Fraction) → IsProper n p → IsProper n q → IsProper n (sum p q)
IsProper-sum n p q h w = record { positive = product_pos _ _ h.positive w.positive; below = below_plus n (pos q.under) (pos p.under) _ _ h.below w.below }

-- over 1 nothing is common
pub reduce-whole : (n : ℕ) (f : Sequence) → IsBelow n f → reduce n (whole f) ≡ whole f
reduce-whole n f b =
    let h : IsProper n (whole f) = record { positive = omega arith; below = b } in
    let back = reduce-back n (whole f) h in
    let one : common n (whole f) * (1 / common n (whole f)) ≡ 1 = ap (λ (p : Fraction). p.under) back in
    let is_one : common n (whole f) ≡ 1 = factor _ _ one in
    let dropped : scale 1 (reduce n (whole f)) ≡ reduce n (whole f) = same (pointwise (λ j. omega (arith, ints))) (omega arith) in
    sym dropped ∙ ap (λ k. scale k (reduce n (whole f))) (sym is_one) ∙ back
  where
    factor : (k m : ℕ) → k * m ≡ 1 → k ≡ 1
    factor zero m e = absurd (omega arith)
    factor (suc zero) m e = refl
    factor (suc (suc k)) zero e = absurd (omega arith)
    factor (suc (suc k)) (suc m) e = absurd (omega arith)

module _ (n : ℕ) where
  abbrev rsum : Fraction → Fraction → Fraction
  rsum p q = reduce n (sum p q)

  pub sum_form_left : (p q : Fraction) → IsProper n p → IsProper n q → rsum (reduce n p) q ≡ rsum p q
  sum_form_left p q h w = reduce-absorb n (λ x. sum x q) (λ k x. sum-scale k x q) (λ x v. IsProper-sum n x q v w) p h

  pub sum_form_right : (p q : Fraction) → IsProper n p → IsProper n q → rsum p (reduce n q) ≡ rsum p q
  sum_form_right p q h w = ap (reduce n) (sum_comm p (reduce n q)) ∙ sum_form_left q p w h ∙ ap (reduce n) (sum_comm q p)

  pub rsum_comm : (p q : Fraction) → rsum p q ≡ rsum q p
  rsum_comm p q = ap (reduce n) (sum_comm p q)

  pub rsum_assoc : (p q r : Fraction) → IsProper n p → IsProper n q → IsProper n r → rsum (rsum p q) r ≡ rsum p (rsum q r)
  rsum_assoc p q r h w v =
      sum_form_left (sum p q) r (IsProper-sum n p q h w) v ∙ ap (reduce n) (sum_assoc p q r) ∙ sym (sum_form_right p (sum q r) h (IsProper-sum n q r w v))

  zero_below : IsBelow n nought
  zero_below = record { past = λ j le. refl }

  pub rsum-zero : (p : Fraction) → rsum p (whole nought) ≡ reduce n p
  rsum-zero p = ap (reduce n) (same (pointwise (λ j. omega (arith, ints))) (omega arith))

  pub zero_over : (k : ℕ) → 0 < k → reduce n (record { over = nought; under = k }) ≡ whole nought
  zero_over k lt =
      let h : IsProper n (whole nought) = record { positive = omega arith; below = zero_below } in
      let scaled : scale k (whole nought) ≡ record { over = nought; under = k } = same (pointwise (λ j. omega (arith, ints))) (omega arith) in
      ap (reduce n) (sym scaled) ∙ reduce-scale n k (whole nought) lt h ∙ reduce-whole n nought zero_below

  pub IsProper-negative : (p : Fraction) → IsProper n p → IsProper n (negative p)
  IsProper-negative p h = record { positive = h.positive; below = below_times n (negsuc 0) p.over h.below }

  pub rsum-negative : (p : Fraction) → IsProper n p → rsum p (reduce n (negative p)) ≡ whole nought
  rsum-negative p h =
      let w : IsProper n (negative p) = record { positive = h.positive; below = below_times n (negsuc 0) p.over h.below } in
      sum_form_right p (negative p) h w ∙ ap (reduce n) (same (pointwise (λ j. less_itself (pos p.under) (p.over j))) refl) ∙ zero_over (p.under * p.under) (product_pos _ _ h.positive h.positive)

-- ---- products and the conjugate, modulo P of degree d + 1
module _ (d : ℕ) (P : Sequence) (top : P (suc d) ≡ pos 1) (P_below : IsBelow (suc (suc d)) P) where
  abbrev pub times_over : Fraction → Fraction → Fraction
  times_over p q = record { over = product d P p.over q.over; under = p.under * q.under }

  abbrev n : ℕ
  n = suc d

  abbrev rproduct : Fraction → Fraction → Fraction
  rproduct p q = reduce n (times_over p q)

  times_comm : (p q : Fraction) → times_over p q ≡ times_over q p
  times_comm p q = same (product_comm d P top P_below p.over q.over) (omega arith)

  times_assoc : (p q r : Fraction) → times_over (times_over p q) r ≡ times_over p (times_over q r)
  times_assoc p q r = same (product_assoc d P top P_below p.over q.over r.over) (omega arith)

  times-scale : (k : ℕ) (p q : Fraction) → times_over (scale k p) q ≡ scale k (times_over p q)
  times-scale k p q = let L = Linear-product d P top P_below q.over in same (L.scale (pos k) p.over) (omega arith)

  comb_below : (k : ℕ) (x : Sequence) (v : ℕ → Sequence) → ((i : ℕ) → IsBelow n (v i)) → IsBelow n (comb k x v)
  comb_below zero x v h = record { past = λ j le. refl }
  comb_below (suc k) x v h =
      let rest = comb_below k x v h in
      let here = h k in
      record { past = λ j le. ap₂ (λ y z. y +ℤ x k *ℤ z) (rest.past j le) (here.past j le) ∙ omega (arith, ints) }

  pub IsProper-times : (p q : Fraction) → IsProper n p → IsProper n q → IsProper n (times_over p q)
  IsProper-times p q h w = record {
    positive = product_pos _ _ h.positive w.positive;
    below = comb_below n p.over _ (λ a. comb_below n q.over _ (λ b. power-below d P top P_below (a + b)));
  }

  times_form_left : (p q : Fraction) → IsProper n p → IsProper n q → rproduct (reduce n p) q ≡ rproduct p q
  times_form_left p q h w = reduce-absorb n (λ x. times_over x q) (λ k x. times-scale k x q) (λ x v. IsProper-times x q v w) p h

  times_form_right : (p q : Fraction) → IsProper n p → IsProper n q → rproduct p (reduce n q) ≡ rproduct p q
  times_form_right p q h w = ap (reduce n) (times_comm p (reduce n q)) ∙ times_form_left q p w h ∙ ap (reduce n) (times_comm q p)

  pub rproduct_comm : (p q : Fraction) → rproduct p q ≡ rproduct q p
  rproduct_comm p q = ap (reduce n) (times_comm p q)

  pub rproduct_assoc : (p q r : Fraction) → IsProper n p → IsProper n q → IsProper n r → rproduct (rproduct p q) r ≡ rproduct p (rproduct q r)
  rproduct_assoc p q r h w v =
      times_form_left (times_over p q) r (IsProper-times p q h w) v ∙ ap (reduce n) (times_assoc p q r) ∙ sym (times_form_right p (times_over q r) h (IsProper-times q r w v))

  pub rproduct-one : (p : Fraction) → IsProper n p → rproduct p (whole (unit zero)) ≡ reduce n p
  rproduct-one p h = ap (reduce n) (same (product_comm d P top P_below p.over (unit zero) ∙ one-product d P top P_below p.over h.below) (omega arith))

  pub rproduct-zero : (p : Fraction) → IsProper n p → rproduct p (whole nought) ≡ whole nought
  rproduct-zero p h =
      let none : product d P p.over nought ≡ nought = product_comm d P top P_below p.over nought ∙ linear-nought (λ x. product d P x p.over) (Linear-product d P top P_below p.over) in
      let by_one : p.under * 1 ≡ p.under = omega arith in
      ap (reduce n) (same none by_one) ∙ zero_over n p.under h.positive

  -- x (y / e + z / c), by the denominator of x once more
  spread : (p q r : Fraction) → sum (times_over p q) (times_over p r) ≡ scale p.under (times_over p (sum q r))
  spread p q r =
      let L = Linear-product d P top P_below p.over in
      let turned : product d P p.over (plus (times (pos r.under) q.over) (times (pos q.under) r.over)) ≡ plus (times (pos r.under) (product d P p.over q.over)) (times (pos q.under) (product d P p.over r.over)) =
      product_comm d P top P_below p.over _ ∙ L.add _ _ ∙ ap₂ plus (L.scale (pos r.under) q.over) (L.scale (pos q.under) r.over)
      ∙ ap₂ (λ f g. plus (times (pos r.under) f) (times (pos q.under) g)) (product_comm d P top P_below q.over p.over) (product_comm d P top P_below r.over p.over) in
      same
      (pointwise (λ j. sums_spread (pos p.under) (pos q.under) (pos r.under) (product d P p.over q.over j) (product d P p.over r.over j))
      ∙ ap (times (pos p.under)) (sym turned))
      (omega arith)

  pub rproduct-sum : (p q r : Fraction) → IsProper n p → IsProper n q → IsProper n r → rproduct p (rsum n q r) ≡ rsum n (rproduct p q) (rproduct p r)
  rproduct-sum p q r h w v =
      let s = IsProper-sum n q r w v in
      let a = IsProper-times p q h w in
      let b = IsProper-times p r h v in
      times_form_right p (sum q r) h s
      ∙ sym (reduce-scale n p.under (times_over p (sum q r)) h.positive (IsProper-times p (sum q r) h s))
      ∙ ap (reduce n) (sym (spread p q r))
      ∙ sym (sum_form_left n (times_over p q) (reduce n (times_over p r)) a (IsProper-reduce n _ b) ∙ sum_form_right n (times_over p q) (times_over p r) a b)

  module _ (k : ℕ) (root : comb (suc (suc d)) P (λ i. power d P (k * i)) ≡ nought) where
    abbrev pub image_over : Fraction → Fraction
    image_over p = record { over = image d P k p.over; under = p.under }

    abbrev rimage : Fraction → Fraction
    rimage p = reduce n (image_over p)

    L : Linear (image d P k)
    L = Linear-comb n (λ i. power d P (k * i))

    pub IsProper-image : (p : Fraction) → IsProper n p → IsProper n (image_over p)
    IsProper-image p h = record { positive = h.positive; below = comb_below n p.over _ (λ i. power-below d P top P_below (k * i)) }

    pub image_form : (p : Fraction) → IsProper n p → rimage (reduce n p) ≡ rimage p
    image_form p h = reduce-absorb n image_over (λ m x. same (L.scale (pos m) x.over) refl) IsProper-image p h

    pub rimage-sum : (p q : Fraction) → IsProper n p → IsProper n q → rimage (rsum n p q) ≡ rsum n (rimage p) (rimage q)
    rimage-sum p q h w =
        let a = IsProper-image p h in
        let b = IsProper-image q w in
        image_form (sum p q) (IsProper-sum n p q h w)
        ∙ ap (reduce n) (same (L.add _ _ ∙ ap₂ plus (L.scale (pos q.under) p.over) (L.scale (pos p.under) q.over)) refl)
        ∙ sym (sum_form_left n (image_over p) (reduce n (image_over q)) a (IsProper-reduce n _ b) ∙ sum_form_right n (image_over p) (image_over q) a b)

    pub rimage-product : (p q : Fraction) → IsProper n p → IsProper n q → rimage (rproduct p q) ≡ rproduct (rimage p) (rimage q)
    rimage-product p q h w =
        let a = IsProper-image p h in
        let b = IsProper-image q w in
        image_form (times_over p q) (IsProper-times p q h w)
        ∙ ap (reduce n) (same (image-product d P top P_below k root p.over q.over) refl)
        ∙ sym (times_form_left (image_over p) (reduce n (image_over q)) a (IsProper-reduce n _ b) ∙ times_form_right (image_over p) (image_over q) a b)

    -- where the map is its own inverse on the powers
    pub rimage-rimage : ((i : ℕ) → power d P (k * (k * i)) ≡ power d P i) → (p : Fraction) → IsProper n p → rimage (rimage p) ≡ reduce n p
    rimage-rimage twice p h =
        image_form (image_over p) (IsProper-image p h)
        ∙ ap (reduce n) (same
        (linear-comb (image d P k) L n p.over (λ i. power d P (k * i))
        ∙ comb-family n p.over _ _ (λ i. image-power d P top P_below k root (k * i) ∙ twice i) ∙ expand d P p.over h.below) refl)
