-- The greatest common divisor of some numbers, and division by it.
use Rattle.std.proofs.Common.{◌≡◌, ℕ, zero, suc, ◌+◌, ◌*◌, ◌/◌, ◌<◌, ◌≤◌, refl, sym, ap, ap₂, ◌∙◌, subst, arith, inl, inr}
use Rattle.std.specs.Prelude.{ℤ, pos, negsuc, ◌*ℤ◌, neg_ℤ, unsigned_abs}
use Rattle.std.proofs.lemmas.Int.{unsigned_abs-mul}
use Rattle.std.proofs.lemmas.Bool.{cases_eq}
use Rattle.std.proofs.lemmas.Nat.Gcd.{dvd_trans, dvd_refl, IsGcd-from_zero, same_from_IsGcd}
use native.Mathlib.Nat.{mul-div_cancel', mul-div_cancel_left}
use Prim.Native.Nat.{◌∣◌}
use Rattle.poly_core.specs.Combination.{Sequence, times}
use Rattle.poly_core.specs.Gcd.{gcd, IsGcd-gcd, gcd-times}

-- the greatest common divisor of d and the magnitudes of the first n of f
unfoldable pub content : ℕ → ℕ → Sequence → ℕ
content d zero f = d
content d (suc n) f = gcd (content d n f) (unsigned_abs (f n))

pub content-times : (d n k : ℕ) (f : Sequence) → 0 < k → content (k * d) n (times (pos k) f) ≡ k * content d n f
unfolding content
content-times d zero k f lt = refl
content-times d (suc n) k f lt =
    ap₂ gcd (content-times d n k f lt) (unsigned_abs-mul (pos k) (f n)) ∙ gcd-times k (content d n f) (unsigned_abs (f n)) lt

pub content-divides-first : (d n : ℕ) (f : Sequence) → content d n f ∣ d
unfolding content
content-divides-first d zero f = dvd_refl d
content-divides-first d (suc n) f =
    let g = IsGcd-gcd (content d n f) (unsigned_abs (f n)) in
    dvd_trans _ g.0 (content-divides-first d n f)

pub content-divides : (d n : ℕ) (f : Sequence) (j : ℕ) → j < n → content d n f ∣ unsigned_abs (f j)
unfolding content
content-divides d zero f j lt = absurd (omega arith)
content-divides d (suc n) f j lt =
    let g = IsGcd-gcd (content d n f) (unsigned_abs (f n)) in
    elim (cases_eq j n) [
      | inl e ↦ subst (λ i. gcd (content d n f) (unsigned_abs (f n)) ∣ unsigned_abs (f i)) (sym e) g.1
      | inr ne ↦ dvd_trans _ g.0 (content-divides d n f j (omega arith))
    ]

gcd-zero : (a : ℕ) → gcd a 0 ≡ a
gcd-zero a = same_from_IsGcd a 0 _ _ (IsGcd-gcd a 0) (IsGcd-from_zero a 0 refl)

-- zeros at the end don't count
pub content-past : (d n m : ℕ) (f : Sequence) → ((j : ℕ) → n ≤ j → f j ≡ pos 0) → content d (n + m) f ≡ content d n f
unfolding content
content-past d n zero f past = let e : n + 0 ≡ n = omega arith in ap (λ k. content d k f) e
content-past d n (suc m) f past =
    let e : n + suc m ≡ suc (n + m) = omega arith in
    ap (λ k. content d k f) e ∙ ap₂ gcd (content-past d n m f past) (ap unsigned_abs (past (n + m) (omega arith))) ∙ gcd-zero (content d n f)

-- division of a whole number by one that divides it
abbrev pub quotient : ℕ → ℤ → ℤ
quotient g (pos a) = pos (a / g)
quotient g (negsuc a) = neg_ℤ (pos (suc a / g))

signed : (g m a : ℕ) → g * m ≡ suc a → pos g *ℤ neg_ℤ (pos m) ≡ negsuc a
signed g zero a e = absurd (omega arith)
signed g (suc m) a e = ap (λ z. neg_ℤ (pos z)) e

pub quotient-back : (g : ℕ) (z : ℤ) → g ∣ unsigned_abs z → pos g *ℤ quotient g z ≡ z
quotient-back g (pos a) h = ap pos (mul-div_cancel' g h)
quotient-back g (negsuc a) h = signed g (suc a / g) a (mul-div_cancel' g h)

pub quotient-times : (g : ℕ) (z : ℤ) → 0 < g → quotient g (pos g *ℤ z) ≡ z
quotient-times g (pos a) lt = ap pos (mul-div_cancel_left a lt)
quotient-times g (negsuc a) lt =
    by (g * suc a) refl
  where
    by : (m : ℕ) → g * suc a ≡ m → quotient g (neg_ℤ (pos m)) ≡ negsuc a
    by zero e = absurd (omega arith)
    by (suc m) e = ap (λ z. neg_ℤ (pos (z / g))) (sym e) ∙ ap (λ z. neg_ℤ (pos z)) (mul-div_cancel_left (suc a) lt)
