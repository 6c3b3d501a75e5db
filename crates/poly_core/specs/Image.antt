-- The map that sends x to its power k, modulo a monic polynomial that the power k is a root of too.
use Rattle.std.proofs.Common.{◌≡◌, ℕ, zero, suc, ◌+◌, ◌*◌, ◌%◌, ◌/◌, sym, ap, ap₂, ◌∙◌, arith}
use Rattle.std.specs.Prelude.{ℤ, pos, ◌+ℤ◌, ◌*ℤ◌, neg_ℤ}
use Rattle.std.proofs.lemmas.Int.{ints}
use Rattle.std.proofs.lemmas.Nat.{div-add-mod'}
use Rattle.ring_laws.specs.IntLaws.{mul_comm, mul-neg}
use Rattle.poly_core.specs.Combination.{Sequence, plus, times, nought, comb, pointwise, comb-family, linear-comb, Linear-comb}
use Rattle.poly_core.specs.Companion.{unit, shift, next, power, product, iter, IsBelow, Linear-iter, iter-power, comb-power, power-product, product_comm, Linear-product}

-- f with x^k put for x
abbrev pub image : ℕ → Sequence → ℕ → Sequence → Sequence
image d P k x = comb (suc d) x (λ i. power d P (k * i))

comb-shift : (m : ℕ) (f : Sequence) (v : ℕ → Sequence) → comb (suc m) (shift f) v ≡ comb m f (λ i. v (suc i))
comb-shift zero f v = pointwise (λ j. omega (arith, ints))
comb-shift (suc m) f v = ap (λ g. plus g (times (f m) (v (suc m)))) (comb-shift m f v)

comb-one : (m : ℕ) (v : ℕ → Sequence) → comb (suc m) (unit zero) v ≡ v zero
comb-one zero v = pointwise (λ j. omega (arith, ints))
comb-one (suc m) v = ap (λ g. plus g (times (pos 0) (v (suc m)))) (comb-one m v) ∙ pointwise (λ j. omega (arith, ints))

-- where the sum of s and t is zero, -a s is a t
turned : (a s t : ℤ) → s +ℤ t ≡ pos 0 → neg_ℤ a *ℤ s ≡ a *ℤ t
turned a s t e =
    let s_is : s ≡ neg_ℤ t = omega (arith, ints) in
    let twice : neg_ℤ (neg_ℤ (a *ℤ t)) ≡ a *ℤ t = omega (arith, ints) in
    ap (λ z. neg_ℤ a *ℤ z) s_is ∙ mul-neg (neg_ℤ a) t ∙ ap neg_ℤ (mul_comm (neg_ℤ a) t ∙ mul-neg t a ∙ ap neg_ℤ (mul_comm t a)) ∙ twice

module _ (d : ℕ) (P : Sequence) (top : P (suc d) ≡ pos 1) (P_below : IsBelow (suc (suc d)) P) (k : ℕ)
    (root : comb (suc (suc d)) P (λ i. power d P (k * i)) ≡ nought) where
  abbrev K : ℕ → Sequence
  K i = power d P (k * i)

  next-parts : (f : Sequence) → next d P f ≡ plus (shift f) (times (neg_ℤ (f d)) P)
  next-parts f = pointwise (λ j. ap (λ z. shift f j +ℤ z) (sym (mul_comm (neg_ℤ (f d)) (P j) ∙ mul-neg (P j) (f d) ∙ ap neg_ℤ (mul_comm (P j) (f d)))))

  below-top : (j : ℕ) → comb (suc d) P K j +ℤ K (suc d) j ≡ pos 0
  below-top j =
      let one : K (suc d) j ≡ P (suc d) *ℤ K (suc d) j = sym (ap (λ z. z *ℤ K (suc d) j) top ∙ omega (arith, ints)) in
      ap (λ z. comb (suc d) P K j +ℤ z) one ∙ ap (λ (f : Sequence). f j) root

  image-next : (f : Sequence) → image d P k (next d P f) ≡ iter d P k (image d P k f)
  image-next f =
      let L = Linear-comb (suc d) K in
      ap (image d P k) (next-parts f) ∙ L.add (shift f) (times (neg_ℤ (f d)) P)
      ∙ ap₂ plus (comb-shift d f K) (L.scale (neg_ℤ (f d)) P ∙ pointwise (λ j. turned (f d) (comb (suc d) P K j) (K (suc d) j) (below-top j)))
      ∙ comb-family (suc d) f _ _ (λ i. let e : k * suc i ≡ k + k * i = omega arith in ap (power d P) e ∙ sym (iter-power d P k (k * i)))
      ∙ sym (linear-comb (iter d P k) (Linear-iter d P k) (suc d) f K)

  pub image-power : (m : ℕ) → image d P k (power d P m) ≡ power d P (k * m)
  image-power zero = comb-one d K
  image-power (suc m) =
      let e : k + k * m ≡ k * suc m = omega arith in
      image-next (power d P m) ∙ ap (iter d P k) (image-power m) ∙ iter-power d P k (k * m) ∙ ap (power d P) e

  powers-product : (p q : ℕ) → product d P (power d P p) (power d P q) ≡ power d P (p + q)
  powers-product p q = power-product d P top P_below p (power d P q) ∙ comb-power d P top P_below q p

  pub image-product : (x y : Sequence) → image d P k (product d P x y) ≡ product d P (image d P k x) (image d P k y)
  image-product x y =
      let n = suc d in
      let L = Linear-comb n K in
      linear-comb (image d P k) L n x (λ a. comb n y (λ b. power d P (a + b)))
      ∙ comb-family n x _ _ (λ a.
      linear-comb (image d P k) L n y (λ b. power d P (a + b))
      ∙ comb-family n y _ _ (λ b.
      let e : k * (a + b) ≡ k * b + k * a = omega arith in
      image-power (a + b) ∙ ap (power d P) e ∙ sym (powers-product (k * b) (k * a)))
      ∙ sym (linear-comb (λ w. product d P w (K a)) (Linear-product d P top P_below (K a)) n y K)
      ∙ product_comm d P top P_below (image d P k y) (K a))
      ∙ sym (linear-comb (λ w. product d P w (image d P k y)) (Linear-product d P top P_below (image d P k y)) n x K)

-- after N steps the powers come round
module _ (d : ℕ) (P : Sequence) (N : ℕ) (round : power d P N ≡ power d P zero) where
  once : (m : ℕ) → power d P (m + N) ≡ power d P m
  once m =
      let e : m + zero ≡ m = omega arith in
      sym (iter-power d P m N) ∙ ap (iter d P m) round ∙ iter-power d P m zero ∙ ap (power d P) e

  pub power-round : (m q : ℕ) → power d P (m + q * N) ≡ power d P m
  power-round m zero = ap (power d P) (omega arith)
  power-round m (suc q) =
      let e : m + suc q * N ≡ (m + q * N) + N = omega arith in
      ap (power d P) e ∙ once (m + q * N) ∙ power-round m q

  pub power-mod : (m : ℕ) → power d P (m % N) ≡ power d P m
  power-mod m =
      let e : m % N + (m / N) * N ≡ m = omega (arith, div-add-mod' m N) in
      sym (power-round (m % N) (m / N)) ∙ ap (power d P) e
