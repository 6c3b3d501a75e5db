-- What two sides tell.
use Rattle.std.proofs.Common.{◌≡◌, ℕ, Bool, true, false, List, Option, Some, Ok, Err, refl, sym}
use Rattle.std.specs.Prelude.{IsTrue, ◌↔◌}
use Rattle.ring_laws.specs.Ring.{Ring, Held, RingLaws}
use Rattle.symbol_table.specs.Symbols.{Symbols}
use Rattle.law_events.specs.Sides.{judged, verdict}
use Rattle.kept_values.specs.Kept.{Grows, Told, value_of}
use Rattle.kept_values.specs.declared.kept.Stop.{Stop}
use Rattle.kept_values.specs.declared.kept.Stop.TheVariants.{TooLarge, Memory}
use Rattle.shape_check.specs.declared.shape.Exchange.TheVariants.{Positive, Negative}
use Rattle.shape_check.specs.declared.shape.Shape.{Shape}
use Rattle.shape_check.specs.declared.shape.Shape.TheVariants as shape
use Rattle.shape_check.specs.Answers.{Judges}
use Rattle.shape_check.specs.Shapes.{law_of, told_at}

-- the left side stops
pub left_stops : {E : Type 0} (ring : Ring E) (held : Held E) (values : List E) (e : Stop) (left right : Option E) → Told ring values (Err e) left → Judges (Err e) (judged held left right)
left_stops ring held values TooLarge left right h = rw h refl
left_stops ring held values Memory left right h = tt

-- the right side stops
pub right_stops : {E : Type 0} (ring : Ring E) (held : Held E) (old new : List E) (id : ℕ) (e : Stop) (left right : Option E) → Told ring old (Ok id) left → Told ring new (Err e) right → Judges (Err e) (judged held left right)
right_stops ring held old new id TooLarge left right l r = rw (l.1, r) refl
right_stops ring held old new id Memory left right l r = tt

both_same : {E : Type 0} (held : Held E) (x y : E) (same equal : Bool) → (IsTrue same ↔ (x ≡ y)) → (IsTrue equal ↔ (x ≡ y)) → equal ≡ same
both_same held x y true true s e = refl
both_same held x y false false s e = refl
both_same held x y true false s e = e.1 (s.0 refl)
both_same held x y false true s e = sym (s.1 (e.0 refl))

judged_same : {E : Type 0} (held : Held E) (x y : E) (same : Bool) → held.equal x y ≡ same → Judges (Ok same) (judged held (Some x) (Some y))
judged_same held x y true e = rw e refl
judged_same held x y false e = rw e refl

-- both sides have values
pub both_told : {E : Type 0} {ring : Ring E} {held : Held E} (laws : RingLaws ring held) (old new : List E) (left_id right_id : ℕ) (same : Bool) (left right : Option E)
    → Grows old new → Told ring old (Ok left_id) left → Told ring new (Ok right_id) right → (IsTrue same ↔ (value_of ring new left_id ≡ value_of ring new right_id)) → Judges (Ok same) (judged held left right)
both_told {E} {ring} {held} laws old new left_id right_id same left right grows l r is =
    let x = value_of ring new left_id in
    let y = value_of ring new right_id in
    let stays : value_of ring new left_id ≡ value_of ring old left_id = grows.same left_id ring.zero l.0 in
    rw (l.1, r.1, ← stays) (judged_same held x y same (both_same held x y same (held.equal x y) is (laws.equal_is x y)))

-- that is the verdict of the law
pub told_is : {E : Type 0} (c : Symbols E) (s : Shape) (index : List ℕ) → told_at c s index ≡ verdict c (law_of s) index
told_is c shape.Pentagon index = refl
told_is c (shape.Hexagon Positive) index = refl
told_is c (shape.Hexagon Negative) index = refl
