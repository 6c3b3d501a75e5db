-- A stated evaluation that ends gives the value of the definition.
use Rattle.std.proofs.Common.{◌≡◌, ℕ, zero, suc, ◌+◌, Bool, true, false, Option, Some, None, refl, sym, ap, ◌∙◌, subst, arith, true≢false, zero-add}
use Rattle.std.specs.Prelude.{if◌then◌else◌, IsTrue}
use Rattle.std.proofs.lemmas.Option.{none-some}
use Rattle.ring_laws.specs.Ring.{Ring, Held, RingLaws}
use Rattle.ring_laws.specs.Sums.{total}
use Rattle.ring_laws.specs.Stated.{◌>>=◌, product_at, product3_at, sum_at, conjugate_at, add_product_at, add_product3_at, steps}
use Rattle.symbol_table.specs.declared.law.Kind.{Kind}
use Rattle.symbol_table.specs.declared.law.Kind.TheVariants.{Fails, Overflow}
use Rattle.law_events.specs.Sides.{judged}

abbrev some_or : {A : Type 0} → A → Option A → A
some_or d None = d
some_or d (Some x) = x

some_same : {A : Type 0} (x y : A) → Some x ≡ Some y → x ≡ y
some_same x y e = ap (some_or x) e

-- an evaluation gives this value, if it ends
abbrev pub Evaluates : {E : Type 0} → Option E → E → Type 0
Evaluates o x = (v : _) → o ≡ Some v → v ≡ x

pub given_is : {E : Type 0} (x : E) → Evaluates (Some x) x
given_is x v e = sym (some_same x v e)

pub if_fits : {E : Type 0} (fits : Bool) (x : E) → Evaluates (if fits then Some x else None) x
if_fits true x v e = sym (some_same x v e)
if_fits false x v e = absurd (none-some v e)

-- one evaluation behind another
pub then_is : {A B : Type 0} (o : Option A) (f : A → Option B) (x : A) (y : B) → Evaluates o x → Evaluates (f x) y → Evaluates (o >>= f) y
then_is None f x y first rest v e = absurd (none-some v e)
then_is (Some u) f x y first rest v e = rest v (subst (λ w. f w ≡ Some v) (first u refl) e)

module _ {E : Type 0} (r : Ring E) where
  pub product_is : (x y : E) → Evaluates (product_at r x y) (r.product x y)
  product_is x y = if_fits (r.product_fits x y) (r.product x y)

  pub sum_is : (x y : E) → Evaluates (sum_at r x y) (r.sum x y)
  sum_is x y = if_fits (r.sum_fits x y) (r.sum x y)

  pub conjugate_is : (x : E) → Evaluates (conjugate_at r x) (r.conjugate x)
  conjugate_is x = if_fits (r.conjugate_fits x) (r.conjugate x)

  pub add_product_is : (s x y : E) → Evaluates (add_product_at r s x y) (r.sum s (r.product x y))
  add_product_is s x y = then_is (product_at r x y) (λ p. sum_at r s p) (r.product x y) (r.sum s (r.product x y)) (product_is x y) (sum_is s (r.product x y))

  pub product3_is : (x y z : E) → Evaluates (product3_at r x y z) (r.product (r.product x y) z)
  product3_is x y z =
      then_is (product_at r x y) (λ p. product_at r p z) (r.product x y) (r.product (r.product x y) z) (product_is x y) (product_is (r.product x y) z)

  pub add_product3_is : (s x y z : E) → Evaluates (add_product3_at r s x y z) (r.sum s (r.product (r.product x y) z))
  add_product3_is s x y z =
      then_is (product3_at r x y z) (λ p. sum_at r s p) (r.product (r.product x y) z) (r.sum s (r.product (r.product x y) z)) (product3_is x y z)
      (sum_is s (r.product (r.product x y) z))

-- two sides that are judged: what their verdict says of the values
pub same_where_none : {E : Type 0} (ring : Ring E) (held : Held E) (laws : RingLaws ring held) (left right : Option E) (x y : E)
    → Evaluates left x → Evaluates right y → judged held left right ≡ None → x ≡ y
same_where_none ring held laws None right x y l r e = absurd (none-some Overflow (sym e))
same_where_none ring held laws (Some u) None x y l r e = absurd (none-some Overflow (sym e))
same_where_none ring held laws (Some u) (Some v) x y l r e =
    sym (l u refl) ∙ go (held.equal u v) (laws.equal_is u v).0 e ∙ r v refl
  where
    go : (b : Bool) → (IsTrue b → u ≡ v) → (if b then None else Some Fails) ≡ None → u ≡ v
    go true same e = same refl
    go false same e = absurd (none-some Fails (sym e))

abbrev is_overflow : Option Kind → Bool
is_overflow None = false
is_overflow (Some Overflow) = true
is_overflow (Some Fails) = false

kinds_differ : Some Overflow ≡ Some Fails → ⊥
kinds_differ e = true≢false (ap is_overflow e)

pub never_fails : {E : Type 0} (ring : Ring E) (held : Held E) (laws : RingLaws ring held) (left right : Option E) (x y : E)
    → Evaluates left x → Evaluates right y → x ≡ y → judged held left right ≡ Some Fails → ⊥
never_fails ring held laws None right x y l r same e = kinds_differ e
never_fails ring held laws (Some u) None x y l r same e = kinds_differ e
never_fails ring held laws (Some u) (Some v) x y l r same e = go (held.equal u v) ((laws.equal_is u v).1 (l u refl ∙ same ∙ sym (r v refl))) e
  where
    go : (b : Bool) → IsTrue b → (if b then None else Some Fails) ≡ Some Fails → ⊥
    go true is e = none-some Fails e
    go false is e = true≢false (sym is)

-- stated sums
module _ {E : Type 0} (ring : Ring E) (held : Held E) (laws : RingLaws ring held) where
  total_member : (n : ℕ) (term : ℕ → E) → IsTrue (ring.member (total ring n term))
  total_member zero term = laws.zero_is
  total_member (suc n) term = laws.sum_is _ _

  -- one step of a sum: its term is added, or it is zero
  pub step_is : (goes : Bool) (added : Option E) (s term : E) → IsTrue (ring.member s) → Evaluates added (ring.sum s term) → (goes ≡ false → term ≡ ring.zero)
      → Evaluates (if goes then added else Some s) (ring.sum s term)
  step_is true added s term is add off v e = add v e
  step_is false added s term is add off v e = sym (some_same s v e) ∙ sym (laws.sum-zero s is) ∙ ap (ring.sum s) (sym (off refl))

  steps_from : (step : ℕ → E → Option E) (term : ℕ → E) → ((t : ℕ) (s : E) → IsTrue (ring.member s) → Evaluates (step t s) (ring.sum s (term t)))
      → (t n : ℕ) → Evaluates (steps step t n (total ring t term)) (total ring (t + n) term)
  steps_from step term adds t zero v e =
      let same : t ≡ t + 0 = omega arith in sym (some_same _ v e) ∙ ap (λ k. total ring k term) same
  steps_from step term adds t (suc n) v e =
      let one : suc t ≡ t + 1 = omega arith in
      let more : t + 1 + n ≡ t + suc n = omega arith in
      let next : Evaluates (step t (total ring t term)) (total ring (t + 1) term) =
      subst (λ k. Evaluates (step t (total ring t term)) (total ring k term)) one (adds t (total ring t term) (total_member t term)) in
      then_is (step t (total ring t term)) (λ sum. steps step (t + 1) n sum) (total ring (t + 1) term) (total ring (t + 1 + n) term) next
      (steps_from step term adds (t + 1) n) v e
      ∙ ap (λ k. total ring k term) more

  -- steps that add the terms in label order give the sum
  pub steps_are : (step : ℕ → E → Option E) (term : ℕ → E) → ((t : ℕ) (s : E) → IsTrue (ring.member s) → Evaluates (step t s) (ring.sum s (term t)))
      → (n : ℕ) → Evaluates (steps step 0 n ring.zero) (total ring n term)
  steps_are step term adds n =
      subst (λ k. Evaluates (steps step 0 n ring.zero) (total ring k term)) (zero-add n) (steps_from step term adds 0 n)
