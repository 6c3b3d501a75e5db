-- The steps of Euclid's loop, and of a quotient.
use Rattle.std.proofs.Common.{◌≡◌, ℕ, suc, ◌+◌, ◌/◌, ◌%◌, refl, ap, ◌∙◌, arith}
use Rattle.std.specs.Prelude.{ℤ, pos, negsuc, neg_ℤ, ◌<ℤ◌, ◌≤ℤ◌, unsigned_abs}
use Rattle.std.proofs.lemmas.Int.{ints}
use Rattle.std.proofs.lemmas.Nat.Gcd.{IsGcd-from_zero, IsGcd-from_mod, same_from_IsGcd}
use Rattle.poly_core.specs.Combination.{Sequence}
use Rattle.poly_core.specs.Gcd.{gcd, IsGcd-gcd}
use Rattle.cyclo_core.specs.Content.{content, quotient}
use Rattle.cyclo_core.specs.CycloLaws.{gcd-one}

pub gcd-step : (a b : ℕ) → gcd b (a % b) ≡ gcd a b
gcd-step a b = same_from_IsGcd a b _ _ (IsGcd-from_mod a b _ (IsGcd-gcd b (a % b))) (IsGcd-gcd a b)

pub gcd-end : (a b : ℕ) → b ≡ 0 → gcd a b ≡ a
gcd-end a b e = same_from_IsGcd a b _ _ (IsGcd-gcd a b) (IsGcd-from_zero a b e)

-- nothing but 1 divides 1
pub gcd-by_one : (a b : ℕ) → b ≡ 1 → gcd a b ≡ 1
gcd-by_one a b e = ap (gcd a) e ∙ gcd-one a

pub content-none : (d : ℕ) (f : Sequence) → content d 0 f ≡ d
unfolding content
content-none d f = refl

pub content-more : (d k : ℕ) (f : Sequence) → content d (k + 1) f ≡ gcd (content d k f) (unsigned_abs (f k))
unfolding content
content-more d k f = let e : k + 1 ≡ suc k = omega arith in ap (λ m. content d m f) e

pub ruleset gcd_steps = (gcd-step, gcd-end, gcd-by_one, content-none, content-more)

pub quotient-below : (g : ℕ) (z : ℤ) → z <ℤ pos 0 → quotient g z ≡ neg_ℤ (pos (unsigned_abs z / g))
quotient-below g (pos a) h = absurd (omega (arith, ints))
quotient-below g (negsuc a) h = refl

pub quotient-above : (g : ℕ) (z : ℤ) → pos 0 ≤ℤ z → quotient g z ≡ pos (unsigned_abs z / g)
quotient-above g (pos a) h = refl
quotient-above g (negsuc a) h = absurd (omega (arith, ints))
