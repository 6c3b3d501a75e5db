-- Polynomials modulo a monic polynomial P of degree d + 1, as sequences that are 0 from d + 1 on. `next` is
-- the product with x, and `power k` is x to the power k.
use Rattle.std.proofs.Common.{◌≡◌, ℕ, zero, suc, ◌+◌, ◌<◌, ◌≤◌, refl, sym, ap, ap₂, ◌∙◌, arith}
use Rattle.std.specs.Prelude.{ℤ, pos, ◌+ℤ◌, ◌*ℤ◌, neg_ℤ}
use Rattle.std.proofs.lemmas.Int.{ints}
use Rattle.ring_laws.specs.IntLaws.{mul-add, mul_comm, mul_assoc, mul-neg}
use Rattle.std.proofs.Common.{inl, inr}
use Rattle.std.proofs.lemmas.Bool.{cases_lt, cases_eq}
use Rattle.poly_core.specs.Combination.{Sequence, plus, times, comb, Linear, pointwise, comb-family, linear-comb, Linear-comb, comb-exchange}

-- 1 at i, and 0 elsewhere
abbrev pub unit : ℕ → Sequence
unit zero zero = pos 1
unit zero (suc j) = pos 0
unit (suc i) zero = pos 0
unit (suc i) (suc j) = unit i j

-- one place up
abbrev pub shift : Sequence → Sequence
shift f zero = pos 0
shift f (suc j) = f j

-- zero from k on
pub record IsBelow (k : ℕ) (f : Sequence) : Type 0 where
  pub past : (j : ℕ) → k ≤ j → f j ≡ pos 0

-- x times f, where the multiple of P that has the same top coefficient is taken away
abbrev pub next : ℕ → Sequence → Sequence → Sequence
next d P f = λ j. shift f j +ℤ neg_ℤ (f d *ℤ P j)

-- x to the power k
abbrev pub power : ℕ → Sequence → ℕ → Sequence
power d P zero = unit zero
power d P (suc k) = next d P (power d P k)

-- the product, by powers
abbrev pub product : ℕ → Sequence → Sequence → Sequence → Sequence
product d P x y = comb (suc d) x (λ a. comb (suc d) y (λ b. power d P (a + b)))

-- the product with x, c times over
abbrev pub iter : ℕ → Sequence → ℕ → Sequence → Sequence
iter d P zero f = f
iter d P (suc c) f = next d P (iter d P c f)

shift-plus : (f g : Sequence) (j : ℕ) → shift (plus f g) j ≡ shift f j +ℤ shift g j
shift-plus f g zero = refl
shift-plus f g (suc j) = refl

shift-times : (a : ℤ) (f : Sequence) (j : ℕ) → shift (times a f) j ≡ a *ℤ shift f j
shift-times a f zero = omega (arith, ints)
shift-times a f (suc j) = refl

-- a (s - t p) is a s - (a t) p
spread : (a s t p : ℤ) → (a *ℤ s) +ℤ neg_ℤ ((a *ℤ t) *ℤ p) ≡ a *ℤ (s +ℤ neg_ℤ (t *ℤ p))
spread a s t p =
    let m : (a *ℤ t) *ℤ p ≡ a *ℤ (t *ℤ p) = mul_assoc a t p in
    let n = mul-neg a (t *ℤ p) in
    sym (mul-add a s (neg_ℤ (t *ℤ p)) ∙ ap (λ z. (a *ℤ s) +ℤ z) (n ∙ ap neg_ℤ (sym m)))

collect : (s t f g p : ℤ) → (s +ℤ t) +ℤ neg_ℤ ((f +ℤ g) *ℤ p) ≡ (s +ℤ neg_ℤ (f *ℤ p)) +ℤ (t +ℤ neg_ℤ (g *ℤ p))
collect s t f g p =
    let m : (f +ℤ g) *ℤ p ≡ f *ℤ p +ℤ g *ℤ p = mul_comm (f +ℤ g) p ∙ mul-add p f g ∙ ap₂ ◌+ℤ◌ (mul_comm p f) (mul_comm p g) in
    ap (λ z. (s +ℤ t) +ℤ neg_ℤ z) m ∙ omega (arith, ints)

module _ (d : ℕ) (P : Sequence) where
  pub Linear-next : Linear (next d P)
  Linear-next = record {
    add = λ f g. pointwise (λ j. ap (λ s. s +ℤ neg_ℤ ((f d +ℤ g d) *ℤ P j)) (shift-plus f g j) ∙ collect (shift f j) (shift g j) (f d) (g d) (P j));
    scale = λ a f. pointwise (λ j. ap (λ s. s +ℤ neg_ℤ ((a *ℤ f d) *ℤ P j)) (shift-times a f j) ∙ spread a (shift f j) (f d) (P j));
  }

  pub Linear-iter : (c : ℕ) → Linear (iter d P c)
  Linear-iter zero = record { add = λ f g. refl; scale = λ a f. refl }
  Linear-iter (suc c) =
      let L = Linear-iter c in
      record {
        add = λ f g. ap (next d P) (L.add f g) ∙ Linear-next.add _ _;
        scale = λ a f. ap (next d P) (L.scale a f) ∙ Linear-next.scale a _;
      }

  pub iter-power : (c m : ℕ) → iter d P c (power d P m) ≡ power d P (c + m)
  iter-power zero m = ap (power d P) (omega arith)
  iter-power (suc c) m =
      let e : suc (c + m) ≡ suc c + m = omega arith in
      ap (next d P) (iter-power c m) ∙ ap (power d P) e

  unit_at : (i : ℕ) → unit i i ≡ pos 1
  unit_at zero = refl
  unit_at (suc i) = unit_at i

  unit_off : (i j : ℕ) → (i ≡ j → ⊥) → unit i j ≡ pos 0
  unit_off zero zero h = absurd (h refl)
  unit_off zero (suc j) h = refl
  unit_off (suc i) zero h = refl
  unit_off (suc i) (suc j) h = unit_off i j (λ e. h (ap suc e))

  shift-unit : (i j : ℕ) → shift (unit i) j ≡ unit (suc i) j
  shift-unit i zero = refl
  shift-unit i (suc j) = refl

  less_none : (s t p : ℤ) → t ≡ pos 0 → s +ℤ neg_ℤ (t *ℤ p) ≡ s
  less_none s t p e = ap (λ z. s +ℤ neg_ℤ (z *ℤ p)) e ∙ omega (arith, ints)

  -- x^i is itself below the degree
  next-unit : (i : ℕ) → i < d → next d P (unit i) ≡ unit (suc i)
  next-unit i lt = pointwise (λ j. less_none (shift (unit i) j) (unit i d) (P j) (unit_off i d (λ e. omega arith)) ∙ shift-unit i j)

  pub power-unit : (i : ℕ) → i ≤ d → power d P i ≡ unit i
  power-unit zero h = refl
  power-unit (suc i) h = ap (next d P) (power-unit i (omega arith)) ∙ next-unit i (omega arith)

  term_at : (k : ℕ) (x : Sequence) (j : ℕ) → k ≤ d → x k *ℤ power d P k j ≡ x k *ℤ unit k j
  term_at k x j h = ap (λ (f : Sequence). x k *ℤ f j) (power-unit k h)

  -- the part of a sequence below k, by powers
  comb_back : (k : ℕ) (x : Sequence) (j : ℕ) → k ≤ suc d → k ≤ j → comb k x (power d P) j ≡ pos 0
  comb_back zero x j h le = refl
  comb_back (suc k) x j h le =
      ap₂ ◌+ℤ◌ (comb_back k x j (omega arith) (omega arith)) (term_at k x j (omega arith) ∙ ap (λ z. x k *ℤ z) (unit_off k j (λ e. omega arith)))
      ∙ omega (arith, ints)

  comb_front : (k : ℕ) (x : Sequence) (j : ℕ) → k ≤ suc d → j < k → comb k x (power d P) j ≡ x j
  comb_front zero x j h lt = absurd (omega arith)
  comb_front (suc k) x j h lt =
      elim (cases_eq k j) [
        | inl e ↦
            ap₂ ◌+ℤ◌ (comb_back k x j (omega arith) (omega arith)) (term_at k x j (omega arith) ∙ ap (λ z. x k *ℤ z) (ap (unit k) (sym e) ∙ unit_at k))
            ∙ ap (λ i. pos 0 +ℤ (x i *ℤ pos 1)) e ∙ omega (arith, ints)
        | inr ne ↦
            ap₂ ◌+ℤ◌ (comb_front k x j (omega arith) (omega arith)) (term_at k x j (omega arith) ∙ ap (λ z. x k *ℤ z) (unit_off k j ne))
            ∙ omega (arith, ints)
      ]

  pub expand : (x : Sequence) → IsBelow (suc d) x → comb (suc d) x (power d P) ≡ x
  expand x b =
      pointwise (λ j. elim (cases_lt j (suc d)) [
        | inl lt ↦ comb_front (suc d) x j (omega arith) lt
        | inr le ↦ comb_back (suc d) x j (omega arith) le ∙ sym (b.past j le)
      ])

  module _ (top : P (suc d) ≡ pos 1) (P_below : IsBelow (suc (suc d)) P) where
    next-below : (f : Sequence) → IsBelow (suc d) f → IsBelow (suc d) (next d P f)
    next-below f b = record { past = by }
      where
        by : (j : ℕ) → suc d ≤ j → next d P f j ≡ pos 0
        by zero le = absurd (omega arith)
        by (suc j) le =
            elim (cases_eq d j) [
              | inl e ↦ ap (λ i. f i +ℤ neg_ℤ (f d *ℤ P (suc i))) (sym e) ∙ ap (λ z. f d +ℤ neg_ℤ (f d *ℤ z)) top ∙ omega (arith, ints)
              | inr ne ↦ ap₂ (λ y z. y +ℤ neg_ℤ (f d *ℤ z)) (b.past j (omega arith)) (P_below.past (suc j) (omega arith)) ∙ omega (arith, ints)
            ]

    pub power-below : (m : ℕ) → IsBelow (suc d) (power d P m)
    power-below zero = record { past = past }
      where
        past : (j : ℕ) → suc d ≤ j → unit zero j ≡ pos 0
        past zero le = absurd (omega arith)
        past (suc j) le = refl
    power-below (suc m) = next-below _ (power-below m)

    -- the coefficients of a power of x, on the powers from c on
    pub comb-power : (m c : ℕ) → comb (suc d) (power d P m) (λ i. power d P (c + i)) ≡ power d P (c + m)
    comb-power m c =
        comb-family (suc d) (power d P m) _ _ (λ i. sym (iter-power c i))
        ∙ sym (linear-comb (iter d P c) (Linear-iter c) (suc d) (power d P m) (power d P))
        ∙ ap (iter d P c) (expand (power d P m) (power-below m)) ∙ iter-power c m

    up_power : (a b : ℕ) → power d P (a + b) ≡ power d P (b + a)
    up_power a b = ap (power d P) (omega arith)

    -- the product with a power of x
    pub power-product : (m : ℕ) (z : Sequence) → product d P (power d P m) z ≡ comb (suc d) z (λ c. power d P (m + c))
    power-product m z =
        comb-exchange (suc d) (suc d) (power d P m) z (λ a b. power d P (a + b))
        ∙ comb-family (suc d) z _ _ (λ b. comb-family (suc d) (power d P m) _ _ (λ a. up_power a b) ∙ comb-power m b ∙ up_power b m)

    pub product_comm : (x y : Sequence) → product d P x y ≡ product d P y x
    product_comm x y =
        comb-exchange (suc d) (suc d) x y (λ a b. power d P (a + b))
        ∙ comb-family (suc d) y _ _ (λ b. comb-family (suc d) x _ _ (λ a. up_power a b))

    pub one-product : (x : Sequence) → IsBelow (suc d) x → product d P (unit zero) x ≡ x
    one-product x b = power-product zero x ∙ comb-family (suc d) x _ _ (λ c. ap (power d P) (omega arith)) ∙ expand x b

    -- a product is linear on the left
    pub Linear-product : (z : Sequence) → Linear (λ x. product d P x z)
    Linear-product z = Linear-comb (suc d) (λ a. comb (suc d) z (λ b. power d P (a + b)))

    triple : (x y z : Sequence) → product d P (product d P x y) z ≡ comb (suc d) x (λ a. comb (suc d) y (λ b. comb (suc d) z (λ c. power d P ((a + b) + c))))
    triple x y z =
        linear-comb (λ w. product d P w z) (Linear-product z) (suc d) x (λ a. comb (suc d) y (λ b. power d P (a + b)))
        ∙ comb-family (suc d) x _ _ (λ a. linear-comb (λ w. product d P w z) (Linear-product z) (suc d) y (λ b. power d P (a + b))
        ∙ comb-family (suc d) y _ _ (λ b. power-product (a + b) z))

    -- by turning the factors round: (x y) z = (y z) x
    pub product_assoc : (x y z : Sequence) → product d P (product d P x y) z ≡ product d P x (product d P y z)
    product_assoc x y z =
        triple x y z
        ∙ comb-exchange (suc d) (suc d) x y (λ a b. comb (suc d) z (λ c. power d P ((a + b) + c)))
        ∙ comb-family (suc d) y _ _ (λ b. comb-exchange (suc d) (suc d) x z (λ a c. power d P ((a + b) + c))
        ∙ comb-family (suc d) z _ _ (λ c. comb-family (suc d) x _ _ (λ a. ap (power d P) (omega arith))))
        ∙ sym (triple y z x) ∙ product_comm (product d P y z) x
