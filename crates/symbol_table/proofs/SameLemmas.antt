-- Two indices compare as equal exactly where their labels are the same; one value more in a map.
use Rattle.std.proofs.Common.{◌≡◌, ℕ, Bool, true, false, ◌&&◌, ◌==◌, [], refl, ap, sym, ◌∙◌, Option, Some, cond, arith, inl, inr}
use Rattle.std.specs.Prelude.{if◌then◌else◌}
use Rattle.std.specs.Ordering.{nat_cmp, ordering_then, is_eq}
use Rattle.std.specs.declared.cmp.Ordering.{Ordering}
use Rattle.std.specs.declared.cmp.Ordering.TheVariants.{Less, Equal, Greater}
use Rattle.std.specs.Prelude.{OnOk, IsTrue, List, Result, Ok, Err}
use Rattle.std.specs.Map.{lookup}
use Rattle.std.specs.BTreeMap.{BTreeMap, Updates, insert_entry, is_at}
use Rattle.std.proofs.lemmas.Map.Views.{All-values-insert_entry}
use Rattle.ring_laws.specs.Ring.{Ring}
use Rattle.std.proofs.lemmas.Bool.Decides.{nat_tests}
use Rattle.symbol_table.specs.Index.{f_index, v_index, f_cmp, v_cmp, f_same, v_same}
use Rattle.symbol_table.specs.Draft.{AreMembers, IsVersioned, Marks, Sets, SetsF, SetsMark, SetsVertex, mark_at}
use Rattle.symbol_table.specs.declared.draft.SetFault.{SetFault}
use Rattle.symbol_table.specs.declared.draft.SetFault.TheVariants.{NotAdmissible, Repeated, Memory}
use Rattle.symbol_table.specs.declared.draft.MarkFault.{MarkFault}
use Rattle.symbol_table.specs.declared.draft.MarkFault.TheVariants as mark
use Rattle.symbol_table.specs.declared.index.FIndex.{FIndex}
use Rattle.symbol_table.specs.declared.index.VIndex.{VIndex}

then_is : (p q : Ordering) → is_eq (ordering_then p q) ≡ (is_eq p && is_eq q)
then_is Less q = refl
then_is Equal q = refl
then_is Greater q = refl

label_is : (x y : ℕ) → is_eq (nat_cmp x y) ≡ (x == y)
label_is x y = grind (arith, nat_tests)

label_then : (x y : ℕ) (q : Ordering) (b : Bool) → is_eq q ≡ b → is_eq (ordering_then (nat_cmp x y) q) ≡ (x == y && b)
label_then x y q b e = then_is (nat_cmp x y) q ∙ (ap (λ t. t && is_eq q) (label_is x y) ∙ ap (λ t. x == y && t) e)

pub v_is : (x y : VIndex) → is_at (v_cmp x) y ≡ v_same x y
v_is x y = label_then x.a y.a _ _ (label_then x.b y.b _ _ (label_is x.c y.c))

pub f_is : (x y : FIndex) → is_at (f_cmp x) y ≡ f_same x y
f_is x y =
    label_then x.a y.a _ _ (label_then x.b y.b _ _ (label_then x.c y.c _ _ (label_then x.d y.d _ _ (label_then x.e y.e _ _ (label_is x.f y.f)))))

chosen : {X : Type 0} (b t : Bool) (x y : X) → b ≡ t → cond b x y ≡ (if t then x else y)
chosen b true x y e = rw e refl
chosen b false x y e = rw e refl

-- what an update of a map says, label by label
pub f_updates : {E : Type 0} (m n : BTreeMap FIndex E) (at : FIndex) (value : E) → Updates f_cmp m n at (Some value)
    → SetsF at value (λ a b c d e f. lookup (is_at (f_cmp (f_index a b c d e f))) m.entries) (λ a b c d e f. lookup (is_at (f_cmp (f_index a b c d e f))) n.entries)
f_updates m n at value new a b c d e f = new.0 (f_index a b c d e f) ∙ chosen _ _ _ _ (f_is at (f_index a b c d e f))

pub v_updates : {E : Type 0} (m n : BTreeMap VIndex E) (at : VIndex) (value : E) → Updates v_cmp m n at (Some value)
    → SetsVertex at value (λ a b c. lookup (is_at (v_cmp (v_index a b c))) m.entries) (λ a b c. lookup (is_at (v_cmp (v_index a b c))) n.entries)
v_updates m n at value new a b c = new.0 (v_index a b c) ∙ chosen _ _ _ _ (v_is at (v_index a b c))

pub mark_updates : {E : Type 0} (m n : BTreeMap ℕ E) (at : ℕ) (value : E) → Updates nat_cmp m n at (Some value) → SetsMark at value (mark_at m.entries) (mark_at n.entries)
mark_updates m n at value new a = new.0 a ∙ chosen _ _ _ _ (label_is at a)

pub on_ok : {A F P Q : Type 0} (r : Result A F) → (P → Q) → OnOk r P → OnOk r Q
on_ok (Ok x) h p = h p
on_ok (Err e) h p = p

-- values of a ring stay so where one of the ring is set
pub members_kept : {K E A : Type 0} (ring : Ring E) (cmp : K → K → Ordering) (r : Result A SetFault) (fault : Option SetFault) (old new : List (K × E)) (at : K) (value : E)
    → Sets r fault old new (insert_entry cmp old at value) → AreMembers ring old → IsTrue (ring.member value) → AreMembers ring new
members_kept ring cmp (Ok x) fault old new at value told are is = rw told.1 (All-values-insert_entry cmp at value (λ x. IsTrue (ring.member x)) old are is)
members_kept ring cmp (Err Memory) fault old new at value told are is = rw told.1 are
members_kept ring cmp (Err NotAdmissible) fault old new at value told are is = rw told.1 are
members_kept ring cmp (Err Repeated) fault old new at value told are is = rw told.1 are

-- and so where a twist or a loop value is set
pub marks_kept : {E A : Type 0} (ring : Ring E) (r : Result A MarkFault) (fault : Option MarkFault) (old new : List (ℕ × E)) (at : ℕ) (value : E)
    → Marks r fault old new (insert_entry nat_cmp old at value) → AreMembers ring old → IsTrue (ring.member value) → AreMembers ring new
marks_kept ring (Ok x) fault old new at value told are is = rw told.1 (All-values-insert_entry nat_cmp at value (λ x. IsTrue (ring.member x)) old are is)
marks_kept ring (Err mark.Memory) fault old new at value told are is = rw told.1 are
marks_kept ring (Err mark.Repeated) fault old new at value told are is = rw told.1 are

-- in version 2 any twists and loop values may be set
pub second_versioned : {E : Type 0} (version : ℕ) (twists loops : List (ℕ × E)) → version ≡ 2 → IsVersioned version twists loops
second_versioned version twists loops is = record { known = inr is; first = λ one. absurd (omega (arith, sym one ∙ is)) }
