-- Sequences over a positive denominator, and the one form of each fraction.
use Rattle.std.proofs.Common.{◌≡◌, ℕ, zero, suc, ◌*◌, ◌/◌, ◌<◌, refl, sym, ap, ap₂, ◌∙◌, subst, arith, inl, inr}
use Rattle.std.specs.Prelude.{ℤ, pos, ◌+ℤ◌, ◌*ℤ◌, unsigned_abs}
use Rattle.std.proofs.lemmas.Int.{ints}
use Rattle.std.proofs.lemmas.Bool.{cases_lt}
use Rattle.std.proofs.lemmas.Nat.Gcd.{dvd-zero}
use native.Mathlib.Nat.{zero-div, mul-div_cancel', mul-div-mul_left}
use Prim.Native.Nat.{◌∣◌}
use Rattle.ring_laws.specs.IntLaws.{mul-add, mul_comm, mul_assoc, add_comm, add_assoc}
use Rattle.poly_core.specs.Combination.{Sequence, times, pointwise}
use Rattle.poly_core.specs.Companion.{IsBelow}
use Rattle.cyclo_core.specs.Content.{content, quotient, content-times, content-divides, content-divides-first, quotient-back, quotient-times}

-- a sequence over a denominator
pub record Fraction : Type 0 where
  pub over : Sequence
  pub under : ℕ

-- both by k
abbrev pub scale : ℕ → Fraction → Fraction
scale k p = record { over = times (pos k) p.over; under = k * p.under }

-- what both parts have in common
abbrev pub common : ℕ → Fraction → ℕ
common n p = content p.under n p.over

-- the form without a common divisor
abbrev pub reduce : ℕ → Fraction → Fraction
reduce n p = record { over = λ j. quotient (common n p) (p.over j); under = p.under / common n p }

-- a positive denominator, and zero from n on
pub record IsProper (n : ℕ) (p : Fraction) : Type 0 where
  pub positive : 0 < p.under
  pub below : IsBelow n p.over

pub same : {p q : Fraction} → p.over ≡ q.over → p.under ≡ q.under → p ≡ q
same e f = λ t. record { over = e t; under = f t }

pub positive_of : (k m n : ℕ) → 0 < n → k * m ≡ n → (0 < k) × (0 < m)
positive_of zero m n lt e = absurd (omega arith)
positive_of (suc k) zero n lt e = absurd (omega arith)
positive_of (suc k) (suc m) n lt e = (omega arith, omega arith)

pub product_pos : (k m : ℕ) → 0 < k → 0 < m → 0 < k * m
product_pos zero m a b = absurd (omega arith)
product_pos (suc k) zero a b = absurd (omega arith)
product_pos (suc k) (suc m) a b = omega arith

module _ (n : ℕ) where
  common-divides : (p : Fraction) → (j : ℕ) → IsBelow n p.over → common n p ∣ unsigned_abs (p.over j)
  common-divides p j b =
      elim (cases_lt j n) [
        | inl lt ↦ content-divides p.under n p.over j lt
        | inr le ↦ subst (λ z. common n p ∣ unsigned_abs z) (sym (b.past j le)) (dvd-zero _)
      ]

  under-back : (p : Fraction) → common n p * (p.under / common n p) ≡ p.under
  under-back p = mul-div_cancel' _ (content-divides-first p.under n p.over)

  pub common_pos : (p : Fraction) → IsProper n p → (0 < common n p) × (0 < p.under / common n p)
  common_pos p h = positive_of _ _ p.under h.positive (under-back p)

  -- a fraction is its form, times what was common
  pub reduce-back : (p : Fraction) → IsProper n p → scale (common n p) (reduce n p) ≡ p
  reduce-back p h = same (pointwise (λ j. quotient-back _ (p.over j) (common-divides p j h.below))) (under-back p)

  pub IsProper-reduce : (p : Fraction) → IsProper n p → IsProper n (reduce n p)
  IsProper-reduce p h = record {
    positive = (common_pos p h).1;
    below = record { past = λ j le. ap (quotient (common n p)) (h.below.past j le) ∙ ap pos (zero-div _) };
  }

  common-scale : (k : ℕ) (p : Fraction) → 0 < k → common n (scale k p) ≡ k * common n p
  common-scale k p lt = content-times p.under n k p.over lt

  -- the form doesn't change where both parts are multiplied
  pub reduce-scale : (k : ℕ) (p : Fraction) → 0 < k → IsProper n p → reduce n (scale k p) ≡ reduce n p
  reduce-scale k p lt h =
      let g = common n p in
      let gs = common-scale k p lt in
      let pos_g = (common_pos p h).0 in
      let pos_kg = product_pos k g lt pos_g in
      same
      (pointwise (λ j.
      let back = quotient-back g (p.over j) (common-divides p j h.below) in
      let whole : pos k *ℤ p.over j ≡ pos (k * g) *ℤ quotient g (p.over j) = ap (λ z. pos k *ℤ z) (sym back) ∙ sym (mul_assoc (pos k) (pos g) (quotient g (p.over j))) in
      ap₂ quotient gs whole ∙ quotient-times (k * g) (quotient g (p.over j)) pos_kg))
      (ap (λ m. (k * p.under) / m) gs ∙ mul-div-mul_left p.under g lt)

  -- an operation that multiplies with its argument may take the form in its place
  pub reduce-absorb : (F : Fraction → Fraction) → ((k : ℕ) (q : Fraction) → F (scale k q) ≡ scale k (F q)) → ((q : Fraction) → IsProper n q → IsProper n (F q))
      → (p : Fraction) → IsProper n p → reduce n (F (reduce n p)) ≡ reduce n (F p)
  reduce-absorb F commutes proper p h =
      let form = IsProper-reduce p h in
      sym (ap (λ q. reduce n (F q)) (sym (reduce-back p h)) ∙ ap (reduce n) (commutes _ _)
      ∙ reduce-scale (common n p) (F (reduce n p)) (common_pos p h).0 (proper _ form))

  -- in the form nothing is common
  pub common-reduce : (p : Fraction) → IsProper n p → common n (reduce n p) ≡ 1
  common-reduce p h =
      let g = common n p in
      let pos_g = (common_pos p h).0 in
      let again : g * common n (reduce n p) ≡ g = sym (common-scale g (reduce n p) pos_g) ∙ ap (common n) (reduce-back p h) in
      only_one g (common n (reduce n p)) pos_g again
    where
      only_one : (k m : ℕ) → 0 < k → k * m ≡ k → m ≡ 1
      only_one zero m lt e = absurd (omega arith)
      only_one (suc k) zero lt e = absurd (omega arith)
      only_one (suc k) (suc zero) lt e = refl
      only_one (suc k) (suc (suc m)) lt e = absurd (omega arith)

  pub reduce_twice : (p : Fraction) → IsProper n p → reduce n (reduce n p) ≡ reduce n p
  reduce_twice p h = reduce-absorb (λ q. q) (λ k q. refl) (λ q w. w) p h

pub swap_left : (a b c : ℤ) → a *ℤ (b *ℤ c) ≡ b *ℤ (a *ℤ c)
swap_left a b c = sym (mul_assoc a b c) ∙ ap (λ z. z *ℤ c) (mul_comm a b) ∙ mul_assoc b a c

pub add-mul : (w u c : ℤ) → (w +ℤ u) *ℤ c ≡ w *ℤ c +ℤ u *ℤ c
add-mul w u c = mul_comm (w +ℤ u) c ∙ mul-add c w u ∙ ap₂ ◌+ℤ◌ (mul_comm c w) (mul_comm c u)

pub add_swap_left : (a b c : ℤ) → a +ℤ (b +ℤ c) ≡ b +ℤ (a +ℤ c)
add_swap_left a b c = omega (arith, ints)

pub ruleset ring_rules = (mul-add, add-mul, mul_assoc, mul_comm, swap_left, add_comm, add_assoc, add_swap_left)
