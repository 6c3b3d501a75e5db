-- A draft: rules and set values over a ring.
use Rattle.std.specs.Prelude.{◌≡◌, ℕ, Bool, List, [], All, Option, Some, None, is_some, Result, Ok, Err, IsTrue, if◌then◌else◌, ◌==◌, ◌⊎◌}
use Rattle.std.specs.Map.{lookup, values_of}
use Rattle.std.specs.BTreeMap.{insert_entry, is_at}
use Rattle.std.specs.Ordering.{nat_cmp}
use Rattle.ring_laws.specs.Ring.{Ring}
use Rattle.ring_laws.specs.declared.StarRing.{Ghosts}
use Rattle.fusion_rules.specs.Fusion.{Fusion, fuses}
use Rattle.symbol_table.specs.Symbols.{Given, f_admissible}
use Rattle.symbol_table.specs.Index.{f_index, v_index, f_cmp, v_cmp, f_same, v_same}
use Rattle.symbol_table.specs.declared.index.FIndex.{FIndex}
use Rattle.symbol_table.specs.declared.index.VIndex.{VIndex}
use Rattle.symbol_table.specs.declared.draft.SetFault.{SetFault}
use Rattle.symbol_table.specs.declared.draft.SetFault.TheVariants.{NotAdmissible, Repeated, Memory}
use Rattle.symbol_table.specs.declared.draft.MarkFault.{MarkFault}
use Rattle.symbol_table.specs.declared.draft.MarkFault.TheVariants as mark

-- The version, the ring, the rules, and the values that were set, in the order of their indices; twists and loop values
-- in the order of their labels.
pub record DraftValue (R E : Type 0) : Type 0 where
  pub version : ℕ
  pub ring : R
  pub rules : Fusion
  pub set_f : List (FIndex × E)
  pub set_r : List (VIndex × E)
  pub set_w : List (VIndex × E)
  pub set_v : List (VIndex × E)
  pub set_twist : List (ℕ × E)
  pub set_loop : List (ℕ × E)

-- the value of a label that was set
abbrev pub mark_at : {E : Type 0} → List (ℕ × E) → ℕ → Option E
mark_at entries a = lookup (is_at (nat_cmp a)) entries

-- what a draft gives: its version, its triples, and the value at each index that was set
abbrev pub given : {R E : Type 0} → DraftValue R E → Given E
given draft = record {
  version = draft.version;
  count = draft.rules.count;
  fuse = fuses draft.rules;
  set_f = λ a b c d e f. lookup (is_at (f_cmp (f_index a b c d e f))) draft.set_f;
  set_r = λ a b c. lookup (is_at (v_cmp (v_index a b c))) draft.set_r;
  set_w = λ a b c. lookup (is_at (v_cmp (v_index a b c))) draft.set_w;
  set_v = λ a b c. lookup (is_at (v_cmp (v_index a b c))) draft.set_v;
  set_twist = mark_at draft.set_twist;
  set_loop = mark_at draft.set_loop;
}

-- each value is of the ring
abbrev pub AreMembers : {K E : Type 0} → Ring E → List (K × E) → Type 0
AreMembers ring entries = All (λ x. IsTrue (ring.member x)) (values_of entries)

-- A version, with the twists and loop values that are set: it is 1, and none is, or it is 2.
pub record IsVersioned {E : Type 0} (version : ℕ) (twists loops : List (ℕ × E)) : Type 0 where
  pub known : (version ≡ 1) ⊎ (version ≡ 2)
  pub first : version ≡ 1 → (twists ≡ []) × (loops ≡ [])

-- every value that was set is of the ring, and twists and loop values are set in version 2 alone
pub record IsOver {R E : Type 0} (ring : Ring E) (draft : DraftValue R E) : Type 0 where
  pub f : AreMembers ring draft.set_f
  pub r : AreMembers ring draft.set_r
  pub w : AreMembers ring draft.set_w
  pub v : AreMembers ring draft.set_v
  pub twist : AreMembers ring draft.set_twist
  pub loop_value : AreMembers ring draft.set_loop
  pub versioned : IsVersioned draft.version draft.set_twist draft.set_loop

-- a value is of the draft's ring, for a clause under a bound R: StarRing, as `IsMember R.StarRing draft.now x`
abbrev pub IsMember : {R E : Type 0} → Ghosts R E → DraftValue R E → E → Type 0
IsMember bound draft x = IsTrue ((bound.ring draft.ring).member x)

-- one value more
module _ {R E : Type 0} (draft : DraftValue R E) where
  abbrev pub with_f : FIndex → E → DraftValue R E
  with_f at value = record draft { set_f = insert_entry f_cmp draft.set_f at value }

  abbrev pub with_r : VIndex → E → DraftValue R E
  with_r at value = record draft { set_r = insert_entry v_cmp draft.set_r at value }

  abbrev pub with_w : VIndex → E → DraftValue R E
  with_w at value = record draft { set_w = insert_entry v_cmp draft.set_w at value }

  abbrev pub with_v : VIndex → E → DraftValue R E
  with_v at value = record draft { set_v = insert_entry v_cmp draft.set_v at value }

  abbrev pub with_twist : ℕ → E → DraftValue R E
  with_twist a value = record draft { set_twist = insert_entry nat_cmp draft.set_twist a value }

  abbrev pub with_loop : ℕ → E → DraftValue R E
  with_loop a value = record draft { set_loop = insert_entry nat_cmp draft.set_loop a value }

  -- the second version, and nothing else changed
  abbrev pub as_second : DraftValue R E
  as_second = record draft { version = 2 }

abbrev pub f_index_admissible : {E : Type 0} → Given E → FIndex → Bool
f_index_admissible g at = f_admissible g.fuse at.a at.b at.c at.d at.e at.f

-- why a value isn't set: the index isn't admissible, or it was set before
abbrev pub set_fault : {E : Type 0} → Bool → Option E → Option SetFault
set_fault admissible before = if admissible then (if is_some before then Some Repeated else None) else Some NotAdmissible

abbrev pub f_fault : {E : Type 0} → Given E → FIndex → Option SetFault
f_fault g at = set_fault (f_index_admissible g at) (g.set_f at.a at.b at.c at.d at.e at.f)

abbrev pub vertex_fault : {E : Type 0} → Given E → (ℕ → ℕ → ℕ → Option E) → VIndex → Option SetFault
vertex_fault g values at = set_fault (g.fuse at.a at.b at.c) (values at.a at.b at.c)

-- what a setter answers, and what is there then: the old after a refusal, and after want of memory, which comes only where
-- the value may be set
abbrev pub Sets : {A D : Type 0} → Result A SetFault → Option SetFault → D → D → D → Type 0
Sets (Ok _) fault old new wanted = (fault ≡ None) × (new ≡ wanted)
Sets (Err Memory) fault old new wanted = (fault ≡ None) × (new ≡ old)
Sets (Err cause) fault old new wanted = (fault ≡ Some cause) × (new ≡ old)

-- the new values are the old with this one set
abbrev pub SetsF : {E : Type 0} → FIndex → E → (old new : ℕ → ℕ → ℕ → ℕ → ℕ → ℕ → Option E) → Type 0
SetsF at value old new =
    (a b c d e f : ℕ) → new a b c d e f ≡ (if f_same at (f_index a b c d e f) then Some value else old a b c d e f)

abbrev pub SetsVertex : {E : Type 0} → VIndex → E → (old new : ℕ → ℕ → ℕ → Option E) → Type 0
SetsVertex at value old new = (a b c : ℕ) → new a b c ≡ (if v_same at (v_index a b c) then Some value else old a b c)

-- why a twist or a loop value isn't set: it was set before
abbrev pub mark_fault : {E : Type 0} → Option E → Option MarkFault
mark_fault before = if is_some before then Some mark.Repeated else None

-- what a setter of a twist or a loop value answers, and what is there then
abbrev pub Marks : {A D : Type 0} → Result A MarkFault → Option MarkFault → D → D → D → Type 0
Marks (Ok _) fault old new wanted = (fault ≡ None) × (new ≡ wanted)
Marks (Err mark.Memory) fault old new wanted = (fault ≡ None) × (new ≡ old)
Marks (Err mark.Repeated) fault old new wanted = (fault ≡ Some mark.Repeated) × (new ≡ old)

abbrev pub SetsMark : {E : Type 0} → ℕ → E → (old new : ℕ → Option E) → Type 0
SetsMark at value old new = (a : ℕ) → new a ≡ (if at == a then Some value else old a)
