-- The first event in the order of the labels.
use Rattle.std.specs.Prelude.{ℕ, zero, suc, Bool, List, [], ◌∷◌, ◌++◌, true, ◌&&◌, nat_lt, length, if◌then◌else◌, Option, None, Some}
use Rattle.fusion_rules.specs.First.{first_below}
use Rattle.symbol_table.specs.Laws.{form_of, fuses_at, fuse_all}
use Rattle.symbol_table.specs.declared.law.Law.{Law}
use Rattle.symbol_table.specs.declared.law.Kind.{Kind}
use Rattle.symbol_table.specs.declared.law.Event.{Event}
use Rattle.symbol_table.specs.declared.law.Triple.{Triple}

-- the first fault at an index that goes on with so many more labels below n, the first label slowest
abbrev pub first_over : {E : Type 0} → ℕ → (List ℕ → Option E) → ℕ → List ℕ → Option E
first_over n fault zero index = fault index
first_over n fault (suc more) index = first_below n (λ t. first_over n fault more (index ++ t ∷ []))

-- a law and an index, with what is wrong there
abbrev pub event_of : Law → List ℕ → Option Kind → Option Event
event_of law index None = None
event_of law index (Some kind) = Some (record { kind = kind; law = law; index = index })

-- the event of a law at an index: none where the index isn't admissible
abbrev pub event_at : (ℕ → ℕ → ℕ → Bool) → Law → (List ℕ → Option Kind) → List ℕ → Option Event
event_at fuse law verdict index = if fuse_all fuse index (form_of law).triples then event_of law index (verdict index) else None

-- the first event of a law whose verdict at an admissible index is told
abbrev pub first_event : ℕ → (ℕ → ℕ → ℕ → Bool) → Law → (List ℕ → Option Kind) → Option Event
first_event n fuse law verdict = first_over n (event_at fuse law verdict) (form_of law).places []

-- the three places of a triple lie below n
abbrev pub within : ℕ → Triple → Bool
within n t = nat_lt t.a n && (nat_lt t.b n && nat_lt t.c n)

-- the labels of a part of an index fuse at each triple that lies within the part
abbrev pub fuse_known : (ℕ → ℕ → ℕ → Bool) → List ℕ → List Triple → Bool
fuse_known fuse index [] = true
fuse_known fuse index (t ∷ ts) = (if within (length index) t then fuses_at fuse index t else true) && fuse_known fuse index ts

-- all places of all triples lie below n
abbrev pub all_within : ℕ → List Triple → Bool
all_within n [] = true
all_within n (t ∷ ts) = within n t && all_within n ts
