-- Stated evaluations: one step of a loop, and that what doesn't stop gives the sum that it states.
use Rattle.std.proofs.Common.{◌≡◌, ℕ, zero, suc, ◌+◌, ◌-◌, ◌<◌, ◌≤◌, Bool, true, false, Option, Some, None, List, [], ◌∷◌, length, get_or, drop, refl, ap, sym, ◌∙◌, arith}
use Rattle.std.specs.Prelude.{if◌then◌else◌, IsTrue, IsErr, Result, Ok, Err}
use Rattle.std.proofs.lemmas.List.{at_drop_more, at_drop_all}
use Rattle.ring_laws.specs.Ring.{Ring, Held, RingLaws}
use Rattle.ring_laws.specs.Sums.{total, sum_over}
use Rattle.ring_laws.proofs.SumLemmas.{total_is}
use Rattle.ring_laws.specs.Stated.{◌>>=◌, Gives, sum_at, product_at, conjugate_at, steps, steps_over}

pub some_inj : {A : Type 0} (x y : A) → Some x ≡ Some y → x ≡ y
some_inj x y e = cc

-- what was given before a value
pub bind_some : {A B : Type 0} (o : Option A) (f : A → Option B) (y : B) → (o >>= f) ≡ Some y → (x : A) × (o ≡ Some x) × (f x ≡ Some y)
bind_some None f y e = absurd (cc)
bind_some (Some x) f y e = (x, refl, e)

-- an error where the evaluation stops
pub err_gives : {A F : Type 0} (r : Result A F) (o : Option A) → IsErr r → o ≡ None → Gives r o
err_gives (Ok v) o h e = absurd cc
err_gives (Err f) o h e = e

guard_some : {A : Type 0} (b : Bool) (x y : A) → (if b then Some x else None) ≡ Some y → y ≡ x
guard_some true x y e = cc
guard_some false x y e = absurd (cc)

module _ {E : Type 0} (R : Ring E) where
  -- what is given is the sum, the product, the conjugate
  pub sum_given : (x y z : E) → sum_at R x y ≡ Some z → z ≡ R.sum x y
  sum_given x y z e = guard_some (R.sum_fits x y) (R.sum x y) z e

  pub product_given : (x y z : E) → product_at R x y ≡ Some z → z ≡ R.product x y
  product_given x y z e = guard_some (R.product_fits x y) (R.product x y) z e

  pub conjugate_given : (x z : E) → conjugate_at R x ≡ Some z → z ≡ R.conjugate x
  conjugate_given x z e = guard_some (R.conjugate_fits x) (R.conjugate x) z e

one_less : (t n : ℕ) → t < n → n - t ≡ suc (n - (t + 1))
one_less t n h = omega arith

-- what is left after one step over the labels
pub steps_one : {A : Type 0} (step : ℕ → A → Option A) (t n : ℕ) (s v : A) → t < n → step t s ≡ Some v → steps step t (n - t) s ≡ steps step (t + 1) (n - (t + 1)) v
steps_one step t n s v h e = rw (one_less t n h, e) refl

-- or where that step stops
pub steps_none : {A : Type 0} (step : ℕ → A → Option A) (t n : ℕ) (s : A) → t < n → step t s ≡ None → steps step t (n - t) s ≡ None
steps_none step t n s h e = rw (one_less t n h, e) refl

-- what is left after one step over a list
pub steps_over_one : {A B : Type 0} (step : B → A → Option A) (xs : List B) (i : ℕ) (d : B) (s v : A) → i < length xs → step (get_or xs i d) s ≡ Some v → steps_over step (drop i xs) s ≡ steps_over step (drop (i + 1) xs) v
steps_over_one step xs i d s v h e = at_drop_more (λ l. steps_over step l s) xs i d h ∙ rw e refl

-- or where that step stops
pub steps_over_none : {A B : Type 0} (step : B → A → Option A) (xs : List B) (i : ℕ) (d : B) (s : A) → i < length xs → step (get_or xs i d) s ≡ None → steps_over step (drop i xs) s ≡ None
steps_over_none step xs i d s h e = at_drop_more (λ l. steps_over step l s) xs i d h ∙ rw e refl

-- nothing is left at the end
pub steps_over_end : {A B : Type 0} (step : B → A → Option A) (xs : List B) (i : ℕ) (s : A) → length xs ≤ i → steps_over step (drop i xs) s ≡ Some s
steps_over_end step xs i s h = at_drop_all (λ l. steps_over step l s) xs i h

module _ {E : Type 0} {R : Ring E} {H : Held E} (laws : RingLaws R H) where
  -- where each step adds its term, all of them give the sum
  pub steps_total : (step : ℕ → E → Option E) (term : ℕ → E) → ((t : ℕ) (s v : E) → IsTrue (R.member s) → step t s ≡ Some v → v ≡ R.sum s (term t)) → (t n : ℕ) (s v : E) → s ≡ total R t term → steps step t n s ≡ Some v → v ≡ total R (t + n) term
  steps_total step term adds t zero s v begun e =
      let same : t + zero ≡ t = omega arith in
      sym (some_inj s v e) ∙ (begun ∙ ap (λ n. total R n term) (sym same))
  steps_total step term adds t (suc n) s v begun e =
      let first = bind_some (step t s) (λ (next : E). steps step (t + 1) n next) v e in
      let next : t + 1 ≡ suc t = omega arith in
      let all : (t + 1) + n ≡ t + suc n = omega arith in
      let is : IsTrue (R.member s) = ap R.member begun ∙ total_is laws t term in
      let more : first.0 ≡ total R (t + 1) term = adds t s first.0 is first.1 ∙ (ap (λ x. R.sum x (term t)) begun ∙ ap (λ n. total R n term) (sym next)) in
      steps_total step term adds (t + 1) n first.0 v more first.2 ∙ ap (λ n. total R n term) all

  -- the same from the first label on
  pub steps_all : (step : ℕ → E → Option E) (term : ℕ → E) → ((t : ℕ) (s v : E) → IsTrue (R.member s) → step t s ≡ Some v → v ≡ R.sum s (term t)) → (n : ℕ) (v : E) → steps step 0 n R.zero ≡ Some v → v ≡ total R n term
  steps_all step term adds n v e =
      let same : 0 + n ≡ n = omega arith in
      steps_total step term adds 0 n R.zero v refl e ∙ ap (λ m. total R m term) same

  -- the same over a list
  pub steps_over_total : {A : Type 0} (step : A → E → Option E) (term : A → E) → ((x : A) (s v : E) → IsTrue (R.member s) → step x s ≡ Some v → v ≡ R.sum s (term x)) → (xs : List A) (s v : E) → IsTrue (R.member s) → steps_over step xs s ≡ Some v → v ≡ R.sum s (sum_over R term xs)
  steps_over_total step term adds [] s v m e = sym (some_inj s v e) ∙ sym (laws.sum-zero s m)
  steps_over_total {A} step term adds (x ∷ xs) s v m e =
      let first = bind_some (step x s) (λ (next : E). steps_over step xs next) v e in
      let more = adds x s first.0 m first.1 in
      steps_over_total step term adds xs first.0 v (ap R.member more ∙ laws.sum_is s (term x)) first.2
      ∙ (ap (λ y. R.sum y (sum_over R term xs)) more ∙ laws.sum_assoc s (term x) (sum_over R term xs))
