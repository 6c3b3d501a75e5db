-- What the evaluation of a new amplitude gives is the amplitude.
use Rattle.std.proofs.Common.{◌≡◌, ℕ, Bool, true, false, List, Option, Some, None, unwrap_or, refl, ap, sym, ◌∙◌}
use Rattle.std.specs.Prelude.{if◌then◌else◌, IsTrue}
use Rattle.ring_laws.specs.Ring.{Ring, Held, RingLaws}
use Rattle.ring_laws.specs.Stated.{product_at, sum_at, add_product_at}
use Rattle.ring_laws.proofs.SumLemmas.{zero-product, if_no}
use Rattle.ring_laws.proofs.StatedLemmas.{some_inj, bind_some, sum_given, product_given, steps_all}
use Rattle.symbol_table.specs.Symbols.{Symbols, Given, symbols_of, f_admissible}
use Rattle.amp_store.specs.Amplitudes.{amplitude_at, amplitude_of}
use Rattle.recouple.specs.Rotations.{from_left, before}
use Rattle.recouple.specs.Raises.{factor, has_factor, raise_term, raise_step, raised, raised_at, AreOver}
use Rattle.recouple.specs.declared.rotation.Rotation.{Rotation}

add_product_given : {E : Type 0} (r : Ring E) (s x y w : E) → add_product_at r s x y ≡ Some w → w ≡ r.sum s (r.product x y)
add_product_given {E} r s x y w e =
    let first = bind_some (product_at r x y) (λ (a : E). sum_at r s a) w e in
    sum_given r s first.0 w first.2 ∙ ap (r.sum s) (product_given r x y first.0 first.1)

module _ {E : Type 0} {R : Ring E} {H : Held E} (laws : RingLaws R H) (g : Given E) (strands : List ℕ) (rotation : Rotation) where
  abbrev c : Symbols E
  c = symbols_of R H g

  off_by : (left : Bool) (a b m d t u : ℕ) → (if left then f_admissible g.fuse a b m d t u else f_admissible g.fuse a b m d u t) ≡ false
      → (if left then c.f a b m d t u else c.h a b m d t u) ≡ R.zero
  off_by true a b m d t u h = if_no (f_admissible g.fuse a b m d t u) _ _ h
  off_by false a b m d t u h = if_no (f_admissible g.fuse a b m d u t) _ _ h

  -- a factor that isn't admissible is zero
  pub factor_off : (key : List ℕ) (t : ℕ) → has_factor c strands rotation key t ≡ false → factor c strands rotation key t ≡ R.zero
  factor_off key t h = off_by (from_left rotation) _ _ _ _ _ _ h

  adds_nothing : (s w x : E) → IsTrue (R.member s) → x ≡ R.zero → Some s ≡ Some w → w ≡ R.sum s x
  adds_nothing s w x m none e = sym (some_inj s w e) ∙ (sym (laws.sum-zero s m) ∙ ap (R.sum s) (sym none))

  step_by : (f old s w : E) (z h : Bool) → IsTrue (R.member old) → H.is_zero old ≡ z → (h ≡ false → f ≡ R.zero) → IsTrue (R.member s)
      → (if z then Some s else (if h then add_product_at R s f old else Some s)) ≡ Some w → w ≡ R.sum s (R.product f old)
  step_by f old s w true h o is off m e = adds_nothing s w _ m (ap (R.product f) ((laws.is_zero_is old o).0 is) ∙ laws.product-zero f) e
  step_by f old s w false true o is off m e = add_product_given R s f old w e
  step_by f old s w false false o is off m e = adds_nothing s w _ m (ap (λ x. R.product x old) (off refl) ∙ zero-product laws old) e

  pub raised_value : (v : List ℕ → E) → ((x : List ℕ) → IsTrue (R.member (v x))) → (key : List ℕ) (w : E) → raised_at c strands rotation v key ≡ Some w → w ≡ raised c strands rotation v key
  raised_value v members key w e =
      steps_all laws (raise_step c strands rotation v key) (raise_term c strands rotation v key)
      (λ t s u m h. step_by (factor c strands rotation key t) (v (before rotation key t)) s u (H.is_zero (v (before rotation key t))) (has_factor c strands rotation key t) (members _) refl (factor_off key t) m h)
      g.count w e

-- an amplitude is a member, also where there is none
pub amplitude_member : {E : Type 0} {R : Ring E} {H : Held E} (laws : RingLaws R H) (count n : ℕ) (es : List (List ℕ × E)) → AreOver R count n es → (x : List ℕ) → IsTrue (R.member (amplitude_of R es x))
amplitude_member {E} {R} laws count n es over x = pick (amplitude_at es x) refl
  where
    pick : (o : Option E) → amplitude_at es x ≡ o → IsTrue (R.member (unwrap_or o R.zero))
    pick None e = laws.zero_is
    pick (Some v) e = over.members x v e
