-- Canonical texts are read again, and no two categories have the same.
use Rattle.std.specs.Prelude.{◌≡◌, ℕ, ◌-◌, ◌^◌, ◌<◌, ◌||◌, ◌==◌, List, length, true, None, IsOkAnd, IsTrue, Ok}
use Rattle.poly_core.specs.Rho.{is_accepted}
use Rattle.cyclo_core.specs.Ratio.{Ratio, ring_at, is_held}
use Rattle.fusion_rules.specs.declared.label.TheConstants.{UNIT}
use Rattle.fusion_rules.specs.Fusion.{unit_fuses}
use Rattle.fusion_rules.specs.Names.{AreNames}
use Rattle.symbol_table.specs.Draft.{f_index_admissible}
use Rattle.symbol_table.specs.Index.{AreThreeLabels}
use Rattle.symbol_table.specs.declared.index.FIndex.{FIndex}
use Rattle.symbol_table.specs.declared.index.VIndex.{VIndex}
use Rattle.category_text.specs.declared.kind.MarkKind.{MarkKind}
use Rattle.category_text.specs.declared.kind.VertexKind.{VertexKind}
use Rattle.category_text.specs.Named.{IsVersion, NamedSymbols}
use Rattle.category_text.specs.Reading.{category_of}
use Rattle.category_text.specs.Canonical.{canonical, f_value, mark_value, marks_of, vertex_value}

-- a number of the ring of a root, which the type of numbers can hold
abbrev pub IsNumberOf : ℕ → Ratio → Type 0
IsNumberOf root x = IsTrue ((ring_at root).member x) × IsTrue (is_held x)

-- What can be said: version 1 or 2; as many names as labels, at least one; an accepted root; with the unit in front or
-- behind exactly the unit triples, and triples of labels only; at each admissible index, and for each mark of a label, a
-- number of the root's ring; and no mark set in version 1.
pub record IsSaid (x : NamedSymbols) : Type 0 where
  pub names : AreNames x.names
  pub some : 0 < length x.names
  pub counted : x.given.count ≡ length x.names
  pub accepted : is_accepted x.root ≡ true
  pub units : (a b c : ℕ) → IsTrue (a == UNIT || b == UNIT) → x.given.fuse a b c ≡ unit_fuses x.given.count a b c
  pub labels : (a b c : ℕ) → IsTrue (x.given.fuse a b c) → AreThreeLabels x.given.count a b c
  pub f : (at : FIndex) → IsTrue (f_index_admissible x.given at) → IsNumberOf x.root (f_value x at)
  pub vertex : (kind : VertexKind) (at : VIndex) → IsTrue (x.given.fuse at.a at.b at.c) → IsNumberOf x.root (vertex_value x kind at)
  pub version : IsVersion x.given.version
  pub mark : (kind : MarkKind) (a : ℕ) → a < x.given.count → IsNumberOf x.root (mark_value x kind a)
  pub unmarked : x.given.version ≡ 1 → (kind : MarkKind) (a : ℕ) → marks_of x.given kind a ≡ None

-- The same category: the same version, root, names and triples, the same F, R, w and v at all labels, where a symbol that
-- wasn't set is 1 and one that isn't admissible is 0, and the same marks. Which symbols and marks of value 1 were set makes
-- no difference.
pub record SameSymbols (x y : NamedSymbols) : Type 0 where
  pub root : x.root ≡ y.root
  pub names : x.names ≡ y.names
  pub count : x.given.count ≡ y.given.count
  pub fuse : (a b c : ℕ) → x.given.fuse a b c ≡ y.given.fuse a b c
  pub f : (at : FIndex) → f_value x at ≡ f_value y at
  pub vertex : (kind : VertexKind) (at : VIndex) → vertex_value x kind at ≡ vertex_value y kind at
  pub version : x.given.version ≡ y.given.version
  pub mark : (kind : MarkKind) (a : ℕ) → mark_value x kind a ≡ mark_value y kind a

-- the canonical text is read, and to the same category
abbrev pub ReadAgain : NamedSymbols → Type 0
ReadAgain x = IsOkAnd (category_of (canonical x)) (SameSymbols x)

-- what can be said is read again
abbrev pub AllReadAgain : Type 0
AllReadAgain = (x : NamedSymbols) → IsSaid x → ReadAgain x

-- the canonical text of what can be said is short enough for the reader
abbrev pub AllShort : Type 0
AllShort = (x : NamedSymbols) → IsSaid x → length (canonical x) < 2 ^ 32 - 1

-- categories with one text are the same: two that aren't have different texts
abbrev pub OneText : Type 0
OneText = (x y : NamedSymbols) → IsSaid x → IsSaid y → canonical x ≡ canonical y → SameSymbols x y

-- the same category has one text
abbrev pub SameText : Type 0
SameText = (x y : NamedSymbols) → SameSymbols x y → canonical x ≡ canonical y

-- what is read from a canonical text has that text
abbrev pub AllSettled : Type 0
AllSettled = (x : NamedSymbols) → IsSaid x → IsOkAnd (category_of (canonical x)) (λ y. canonical y ≡ canonical x)

-- The same of texts, over their bytes: what is read can be said.
abbrev pub Reads : List ℕ → NamedSymbols → Type 0
Reads bytes x = category_of bytes ≡ Ok x

abbrev pub AllSaid : Type 0
AllSaid = (bytes : List ℕ) (x : NamedSymbols) → Reads bytes x → IsSaid x

-- what is read is read again from its canonical text, to the same category
abbrev pub TextsReadAgain : Type 0
TextsReadAgain = (bytes : List ℕ) (x : NamedSymbols) → Reads bytes x → ReadAgain x

-- texts that are read have canonical texts short enough for the reader
abbrev pub TextsShort : Type 0
TextsShort = (bytes : List ℕ) (x : NamedSymbols) → Reads bytes x → length (canonical x) < 2 ^ 32 - 1

-- texts of two categories have different canonical texts
abbrev pub TextsApart : Type 0
TextsApart = (a b : List ℕ) (x y : NamedSymbols) → Reads a x → Reads b y → canonical x ≡ canonical y → SameSymbols x y

-- the canonical text of what was read is read, and what is written of that is the same text
abbrev pub TextsSettled : Type 0
TextsSettled = (bytes : List ℕ) (x : NamedSymbols) → Reads bytes x → IsOkAnd (category_of (canonical x)) (λ y. canonical y ≡ canonical x)
