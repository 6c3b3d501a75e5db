-- The parts of a canonical text, label by label.
use Rattle.std.specs.Prelude.{ℕ, ◌<◌, List, [], ◌∷◌, ◌++◌, if◌then◌else◌, IsTrue}
use Rattle.line_text.specs.Spelling.{spelled}
use Rattle.symbol_table.specs.Draft.{f_index_admissible}
use Rattle.symbol_table.specs.Index.{AreThreeLabels, v_index}
use Rattle.symbol_table.specs.declared.index.FIndex.{FIndex}
use Rattle.symbol_table.specs.declared.index.VIndex.{VIndex}
use Rattle.category_text.specs.declared.kind.MarkKind.{MarkKind}
use Rattle.category_text.specs.declared.kind.MarkKind.TheVariants.{OnTwist, OnLoop}
use Rattle.category_text.specs.declared.kind.VertexKind.{VertexKind}
use Rattle.category_text.specs.declared.kind.VertexKind.TheVariants.{OnR, OnW, OnV}
use Rattle.category_text.specs.declared.kind.Group.{Group}
use Rattle.category_text.specs.declared.kind.Group.TheVariants.{Fusions, Vertices, FBehind}
use Rattle.category_text.specs.declared.writing.Parts.{Parts}
use Rattle.category_text.specs.Named.{NamedSymbols, named_draft}
use Rattle.category_text.specs.Canonical.{counting, behind, fuse_line, f_line, vertex_line, has_fuse_line, has_f_line, has_mark_line, has_vertex_line, head_lines, f_value, mark_line, mark_value, vertex_value}
use Rattle.category_text.specs.Again.{IsNumberOf}

-- what is named over a draft by references to both
abbrev pub named_parts : Parts → NamedSymbols
named_parts parts = named_draft parts.names.now parts.draft.now

-- texts, one behind the other
abbrev pub texts : {A : Type 0} → (A → List ℕ) → List A → List ℕ
texts text [] = []
texts text (x ∷ xs) = text x ++ texts text xs

-- the line of an index, or nothing
abbrev pub fuse_text : NamedSymbols → VIndex → List ℕ
fuse_text named at = if has_fuse_line named at then spelled (fuse_line named at ∷ []) else []

abbrev pub f_text : NamedSymbols → FIndex → List ℕ
f_text named at = if has_f_line named at then spelled (f_line named at ∷ []) else []

abbrev pub vertex_text : NamedSymbols → VertexKind → VIndex → List ℕ
vertex_text named kind at = if has_vertex_line named kind at then spelled (vertex_line named kind at ∷ []) else []

abbrev pub mark_text : NamedSymbols → MarkKind → ℕ → List ℕ
mark_text named kind a = if has_mark_line named kind a then spelled (mark_line named kind a ∷ []) else []

abbrev pub group_text : NamedSymbols → Group → VIndex → List ℕ
group_text named Fusions at = fuse_text named at
group_text named (Vertices kind) at = vertex_text named kind at
group_text named (FBehind first) at = f_text named (behind first at)

-- the first labels of a group are below a count
abbrev pub GroupBelow : ℕ → Group → Type 0
GroupBelow n Fusions = Unit {0}
GroupBelow n (Vertices kind) = Unit {0}
GroupBelow n (FBehind first) = AreThreeLabels n first.a first.b first.c

-- the texts of all three labels below a count, where the last, the last two and all three run
abbrev pub row : ℕ → (VIndex → List ℕ) → ℕ → ℕ → List ℕ
row n text a b = texts (λ (c : ℕ). text (v_index a b c)) (counting 0 n)

abbrev pub plane : ℕ → (VIndex → List ℕ) → ℕ → List ℕ
plane n text a = texts (λ (b : ℕ). row n text a b) (counting 0 n)

abbrev pub space : ℕ → (VIndex → List ℕ) → List ℕ
space n text = texts (λ (a : ℕ). plane n text a) (counting 0 n)

abbrev pub behind_text : NamedSymbols → VIndex → List ℕ
behind_text named first = space named.given.count (group_text named (FBehind first))

-- the marks of all labels
abbrev pub marks_text : NamedSymbols → MarkKind → List ℕ
marks_text named kind = texts (mark_text named kind) (counting 0 named.given.count)

-- the symbols of vertices, and the marks
abbrev pub vertices_text : NamedSymbols → List ℕ
vertices_text named = space named.given.count (vertex_text named OnR) ++ (space named.given.count (vertex_text named OnW) ++ space named.given.count (vertex_text named OnV))

abbrev pub all_marks_text : NamedSymbols → List ℕ
all_marks_text named = marks_text named OnTwist ++ marks_text named OnLoop

-- the whole text, group by group
abbrev pub written : NamedSymbols → List ℕ
written named =
    spelled (head_lines named) ++ (space named.given.count (fuse_text named) ++ (space named.given.count (behind_text named) ++ (vertices_text named ++ all_marks_text named)))

-- What is read on the way: at each admissible index a number of the root's ring.
abbrev pub FNumber : NamedSymbols → FIndex → Type 0
FNumber named at = IsTrue (f_index_admissible named.given at) → IsNumberOf named.root (f_value named at)

abbrev pub VertexNumber : NamedSymbols → VertexKind → VIndex → Type 0
VertexNumber named kind at = IsTrue (named.given.fuse at.a at.b at.c) → IsNumberOf named.root (vertex_value named kind at)

abbrev pub GroupNumber : NamedSymbols → Group → VIndex → Type 0
GroupNumber named Fusions at = Unit {0}
GroupNumber named (Vertices kind) at = VertexNumber named kind at
GroupNumber named (FBehind first) at = FNumber named (behind first at)

abbrev pub MarkNumber : NamedSymbols → MarkKind → ℕ → Type 0
MarkNumber named kind a = IsNumberOf named.root (mark_value named kind a)

-- what holds of all labels below a count, where the last, the last two and all three run
abbrev pub InRow : ℕ → (VIndex → Type 0) → ℕ → ℕ → Type 0
InRow n P a b = (c : ℕ) → c < n → P (v_index a b c)

abbrev pub InPlane : ℕ → (VIndex → Type 0) → ℕ → Type 0
InPlane n P a = (b : ℕ) → b < n → InRow n P a b

abbrev pub InSpace : ℕ → (VIndex → Type 0) → Type 0
InSpace n P = (a : ℕ) → a < n → InPlane n P a

abbrev pub BehindNumber : NamedSymbols → VIndex → Type 0
BehindNumber named first = InSpace named.given.count (GroupNumber named (FBehind first))

abbrev pub MarkNumbers : NamedSymbols → MarkKind → Type 0
MarkNumbers named kind = (a : ℕ) → a < named.given.count → MarkNumber named kind a

-- the numbers of the symbols of vertices, and of marks
pub record VertexNumbers (named : NamedSymbols) : Type 0 where
  pub r : InSpace named.given.count (GroupNumber named (Vertices OnR))
  pub w : InSpace named.given.count (GroupNumber named (Vertices OnW))
  pub v : InSpace named.given.count (GroupNumber named (Vertices OnV))

pub record AllMarkNumbers (named : NamedSymbols) : Type 0 where
  pub twist : MarkNumbers named OnTwist
  pub loop_value : MarkNumbers named OnLoop

-- the numbers of a whole category
pub record AllNumbers (named : NamedSymbols) : Type 0 where
  pub f : InSpace named.given.count (BehindNumber named)
  pub vertex : VertexNumbers named
  pub mark : AllMarkNumbers named
