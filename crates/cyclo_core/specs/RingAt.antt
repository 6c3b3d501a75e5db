-- The ring of each root is the one by layers, and so has its laws.
use Rattle.std.proofs.Common.{◌≡◌, ℕ, zero, suc, ◌+◌, ◌*◌, ◌-◌, ◌%◌, ◌/◌, ◌<◌, ◌≤◌, refl, sym, ap, ap₂, ◌∙◌, subst, arith}
use Rattle.std.specs.Prelude.{ℤ, pos, negsuc, ◌+ℤ◌, ◌*ℤ◌, neg_ℤ, IsTrue}
use Rattle.std.proofs.lemmas.Int.{ints}
use Rattle.ring_laws.specs.Ring.{Ring, RingLaws}
use Rattle.ring_laws.specs.IntLaws.{mul_assoc, mul-add}
use Rattle.poly_core.specs.Combination.{Sequence, nought, comb, pointwise}
use Rattle.poly_core.specs.Companion.{IsBelow, power, product}
use Rattle.poly_core.specs.Good.{Root, IsGood, phi}
use Rattle.poly_core.specs.Image.{image, power-mod, power-round}
use Rattle.poly_core.specs.Rho.{degree, order, rho}
use Rattle.poly_core.specs.Roots.{root_at, IsGood-root_at}
use Rattle.poly_core.specs.Table.{at, P_top, P_below}
use Rattle.cyclo_core.specs.Content.{content, content-past, quotient}
use Rattle.cyclo_core.specs.CycloLaws.{cyclo_laws, member_of, fraction_proper, in_front}
use Rattle.cyclo_core.specs.Fraction.{Fraction, reduce, IsProper}
use Rattle.cyclo_core.specs.FractionRing.{sum, negative, IsProper-sum, IsProper-negative, IsProper-times, IsProper-image}
use Rattle.cyclo_core.specs.Layers.{fraction, ratio, cyclo_ring, times, turned}
use Rattle.cyclo_core.specs.Ratio.{Ratio, tabulate, same_ratio, reduced, held, coefficient, under, product_at, product_term, conjugate_over, ring_at}
use Rattle.cyclo_core.specs.Sums.{int_sum}

-- the sixteen places and those below the degree give the same form
pub reduced_is : (n : ℕ) (p : Fraction) → n ≤ 16 → IsProper n p → reduced p.over p.under ≡ ratio (reduce n p)
unfolding reduced
reduced_is n p small h =
    let b = h.below in
    let whole : n + (16 - n) ≡ 16 = omega arith in
    let same : content p.under 16 p.over ≡ content p.under n p.over =
    ap (λ m. content p.under m p.over) (sym whole) ∙ content-past p.under n (16 - n) p.over b.past in
    λ t. record { numerators = tabulate 16 (λ j. quotient (same t) (p.over j)); denominator = p.under / same t }

-- a combination at one place, as a sum
pub comb-sum : (k : ℕ) (x : Sequence) (v : ℕ → Sequence) (j : ℕ) → comb k x v j ≡ int_sum k (λ a. x a *ℤ v a j)
unfolding int_sum
comb-sum zero x v j = refl
comb-sum (suc k) x v j = ap (λ z. z +ℤ x k *ℤ v k j) (comb-sum k x v j)

int_sum-times : (k : ℕ) (c : ℤ) (f : ℕ → ℤ) → c *ℤ int_sum k f ≡ int_sum k (λ a. c *ℤ f a)
unfolding int_sum
int_sum-times zero c f = omega (arith, ints)
int_sum-times (suc k) c f = mul-add c (int_sum k f) (f k) ∙ ap (λ z. z +ℤ c *ℤ f k) (int_sum-times k c f)

pub int_sum-same : (k : ℕ) (f g : ℕ → ℤ) → ((a : ℕ) → a < k → f a ≡ g a) → int_sum k f ≡ int_sum k g
unfolding int_sum
int_sum-same zero f g h = refl
int_sum-same (suc k) f g h = ap₂ ◌+ℤ◌ (int_sum-same k f g (λ a lt. h a (omega arith))) (h k (omega arith))

module _ (N : ℕ) where
  abbrev r : Root
  r = root_at N

  g : IsGood r
  g = IsGood-root_at N

  abbrev d : ℕ
  d = r.less_one

  abbrev n : ℕ
  n = suc r.less_one

  abbrev P : Sequence
  P = phi r

  abbrev F : Ratio → Fraction
  F x = fraction n x

  abbrev X : Ratio → Sequence
  X x = let p = fraction n x in p.over

  -- the double sum is the product modulo P
  row_is : (x y : Ratio) (j a : ℕ) → a < n → X x a *ℤ comb n (X y) (λ b. power d P (a + b)) j ≡ int_sum n (product_term N (at x.numerators) (at y.numerators) j a)
  unfolding rho order
  row_is x y j a lt =
      ap (λ z. X x a *ℤ z) (comb-sum n (X y) (λ b. power d P (a + b)) j)
      ∙ int_sum-times n (X x a) _
      ∙ int_sum-same n _ _ (λ b below.
      sym (mul_assoc (X x a) (X y b) (power d P (a + b) j))
      ∙ ap₂ (λ u v. (u *ℤ v) *ℤ power d P (a + b) j) (in_front n a (at x.numerators a) (pos 0) lt) (in_front n b (at y.numerators b) (pos 0) below)
      ∙ ap (λ (f : Sequence). (at x.numerators a *ℤ at y.numerators b) *ℤ f j) (sym (power-mod d P r.order g.round (a + b))))

  product_is : (x y : Ratio) → product d P (X x) (X y) ≡ product_at N (at x.numerators) (at y.numerators)
  unfolding degree
  product_is x y =
      pointwise (λ j. comb-sum n (X x) (λ a. comb n (X y) (λ b. power d P (a + b))) j ∙ int_sum-same n _ _ (λ a lt. row_is x y j a lt))

  turn_power : (a : ℕ) → a ≤ r.order → power d P ((r.order - 1) * a) ≡ power d P ((r.order - a) % r.order)
  turn_power zero le =
      let e : (r.order - 1) * zero ≡ 0 = omega arith in
      let whole : r.order - zero ≡ 0 + 1 * r.order = omega arith in
      ap (power d P) e ∙ sym (power-round d P r.order g.round 0 1) ∙ ap (power d P) (sym whole) ∙ sym (power-mod d P r.order g.round (r.order - zero))
  turn_power (suc a) le =
      let N' : ℕ = r.order - suc a in
      let whole : r.order ≡ N' + suc a = omega arith in
      let less : r.order - 1 ≡ N' + a = omega arith in
      let e : (r.order - 1) * suc a ≡ (r.order - suc a) + a * r.order = ap (λ z. z * suc a) less ∙ turned N' a ∙ ap (λ z. N' + a * z) (sym whole) in
      ap (power d P) e ∙ power-round d P r.order g.round (r.order - suc a) a ∙ sym (power-mod d P r.order g.round (r.order - suc a))
    where
      turned : (m a : ℕ) → (m + a) * suc a ≡ m + a * (m + suc a)
      turned m a = omega arith

  conjugate_is : (x : Ratio) → image d P (r.order - 1) (X x) ≡ conjugate_over N (at x.numerators)
  unfolding degree rho order
  conjugate_is x =
      let within = g.within in
      pointwise (λ j. comb-sum n (X x) (λ i. power d P ((r.order - 1) * i)) j ∙ int_sum-same n _ _ (λ a lt.
      ap (λ z. z *ℤ power d P ((r.order - 1) * a) j) (in_front n a (at x.numerators a) (pos 0) lt)
      ∙ ap (λ (f : Sequence). at x.numerators a *ℤ f j) (turn_power a (omega arith))))

  negative_over : (x : Ratio) → ◌≡◌ {A = Sequence} (λ j. neg_ℤ (X x j)) (λ j. negsuc 0 *ℤ X x j)
  negative_over x = pointwise (λ j. omega (arith, ints))

  top : P (suc d) ≡ pos 1
  top = P_top r.low d g.full

  low : IsBelow (suc (suc d)) P
  low = P_below r.low d g.full

  fp : (x : Ratio) → IsProper n (F x)
  fp x = fraction_proper n x

  root_k : comb (suc (suc d)) P (λ i. power d P ((r.order - 1) * i)) ≡ nought
  root_k = let positive = g.positive in g.root (r.order - 1) (omega arith) g.turned

  member_path : (x : Ratio) → reduced (coefficient N x) (under x) ≡ ratio (reduce n (F x))
  unfolding degree
  member_path x = reduced_is n (F x) g.small (fp x)

  sum_path : (x y : Ratio) → (ring_at N).sum x y ≡ (cyclo_ring r).sum x y
  unfolding degree
  sum_path x y = reduced_is n (sum (F x) (F y)) g.small (IsProper-sum n (F x) (F y) (fp x) (fp y))

  product_path : (x y : Ratio) → (ring_at N).product x y ≡ (cyclo_ring r).product x y
  product_path x y =
      ap (λ (f : Sequence). reduced f (under x * under y)) (sym (product_is x y))
      ∙ reduced_is n (times r (F x) (F y)) g.small (IsProper-times d P top low (F x) (F y) (fp x) (fp y))

  negative_path : (x : Ratio) → (ring_at N).negative x ≡ (cyclo_ring r).negative x
  unfolding degree
  negative_path x =
      ap (λ (f : Sequence). reduced f (under x)) (negative_over x)
      ∙ reduced_is n (negative (F x)) g.small (IsProper-negative n (F x) (fp x))

  conjugate_path : (x : Ratio) → (ring_at N).conjugate x ≡ (cyclo_ring r).conjugate x
  conjugate_path x =
      ap (λ (f : Sequence). reduced f (under x)) (sym (conjugate_is x))
      ∙ reduced_is n (turned r (F x)) g.small (IsProper-image d P top low (r.order - 1) root_k (F x) (fp x))

  pub ring_is : ring_at N ≡ cyclo_ring r
  unfolding degree order rho
  ring_is = λ t. record {
    member = λ x. same_ratio x (member_path x t);
    zero = (cyclo_ring r).zero;
    one = (cyclo_ring r).one;
    sum = λ x y. sum_path x y t;
    product = λ x y. product_path x y t;
    negative = λ x. negative_path x t;
    conjugate = λ x. conjugate_path x t;
    sum_fits = (cyclo_ring r).sum_fits;
    product_fits = (cyclo_ring r).product_fits;
    conjugate_fits = (cyclo_ring r).conjugate_fits;
  }

pub ring_at_laws : (N : ℕ) → RingLaws (ring_at N) held
ring_at_laws N = subst (λ (R : Ring Ratio). RingLaws R held) (sym (ring_is N)) (cyclo_laws (root_at N) (IsGood-root_at N))

-- a reduced form with phi(N) numerators is a member
pub member_of_reduced : (N : ℕ) (f : Sequence) (m : ℕ) → IsBelow (degree N) f → 0 < m → IsTrue ((ring_at N).member (reduced f m))
unfolding degree
member_of_reduced N f m below positive =
    let p : Fraction = record { over = f; under = m } in
    let g = IsGood-root_at N in
    let h : IsProper (suc (Root.less_one (root_at N))) p = record { positive = positive; below = below } in
    subst (λ (R : Ring Ratio). IsTrue (R.member (reduced f m))) (sym (ring_is N))
    (subst (λ (x : Ratio). IsTrue ((cyclo_ring (root_at N)).member x)) (sym (reduced_is (suc (Root.less_one (root_at N))) p g.small h)) (member_of (root_at N) g p h))
