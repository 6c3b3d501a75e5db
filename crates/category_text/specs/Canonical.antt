-- The one canonical text of named symbols.
use Rattle.std.specs.Prelude.{ℕ, zero, suc, ◌+◌, List, [], ◌∷◌, ◌++◌, Bool, not, ◌&&◌, ◌==◌, nat_lt, map, filter, codes, Option, if◌then◌else◌}
use Rattle.std.specs.List.{flat_map}
use Rattle.std.specs.Fmt.{decimal}
use Rattle.line_text.specs.Spelling.{spelled}
use Rattle.cyclo_core.specs.Ratio.{Ratio, ring_at, same_ratio}
use Rattle.cyclo_text.specs.NumberWords.{spelled_number}
use Rattle.fusion_rules.specs.declared.label.TheConstants.{UNIT}
use Rattle.fusion_rules.specs.Names.{name_of}
use Rattle.symbol_table.specs.Symbols.{Given, f_of, mark_of, vertex_of}
use Rattle.symbol_table.specs.Draft.{f_index_admissible}
use Rattle.symbol_table.specs.Index.{f_index, v_index}
use Rattle.symbol_table.specs.declared.index.FIndex.{FIndex}
use Rattle.symbol_table.specs.declared.index.VIndex.{VIndex}
use Rattle.category_text.specs.declared.kind.MarkKind.{MarkKind}
use Rattle.category_text.specs.declared.kind.MarkKind.TheVariants.{OnTwist, OnLoop}
use Rattle.category_text.specs.declared.kind.VertexKind.{VertexKind}
use Rattle.category_text.specs.declared.kind.VertexKind.TheVariants.{OnR, OnW, OnV}
use Rattle.category_text.specs.Named.{NamedSymbols}

-- so many numbers from one on
abbrev pub counting : ℕ → ℕ → List ℕ
counting from zero = []
counting from (suc n) = from ∷ counting (from + 1) n

-- three labels below a count, in the order of their numbers, the first label slowest
abbrev pub vertices : ℕ → List VIndex
vertices n = flat_map (λ (a : ℕ). flat_map (λ (b : ℕ). map (λ (c : ℕ). v_index a b c) (counting 0 n)) (counting 0 n)) (counting 0 n)

abbrev pub behind : VIndex → VIndex → FIndex
behind x y = f_index x.a x.b x.c y.a y.b y.c

-- six labels below a count, in the same order
abbrev pub sixes : ℕ → List FIndex
sixes n = flat_map (λ (x : VIndex). map (behind x) (vertices n)) (vertices n)

abbrev pub is_one : ℕ → Ratio → Bool
is_one root value = same_ratio value (ring_at root).one

-- the values of a kind that were set, and the word that begins its lines
abbrev pub values_of : Given Ratio → VertexKind → ℕ → ℕ → ℕ → Option Ratio
values_of g OnR = g.set_r
values_of g OnW = g.set_w
values_of g OnV = g.set_v

abbrev pub kind_word : VertexKind → List ℕ
kind_word OnR = codes "r"
kind_word OnW = codes "w"
kind_word OnV = codes "v"

-- the same of marks
abbrev pub marks_of : Given Ratio → MarkKind → ℕ → Option Ratio
marks_of g OnTwist = g.set_twist
marks_of g OnLoop = g.set_loop

abbrev pub mark_word : MarkKind → List ℕ
mark_word OnTwist = codes "twist"
mark_word OnLoop = codes "loop"

-- the word of a version
abbrev pub version_word : ℕ → List ℕ
version_word version = if version == 2 then codes "2" else codes "1"

-- the words of a line of F: the names of its labels, and a number
abbrev pub f_words : List (List ℕ) → FIndex → Ratio → List (List ℕ)
f_words names at value =
    codes "f" ∷ name_of names at.a ∷ name_of names at.b ∷ name_of names at.c ∷ name_of names at.d ∷ name_of names at.e ∷ name_of names at.f
    ∷ spelled_number value ∷ []

module _ (named : NamedSymbols) where
  -- F, and R, w and v, at an index
  abbrev pub f_value : FIndex → Ratio
  f_value at = f_of (ring_at named.root) named.given at.a at.b at.c at.d at.e at.f

  abbrev pub vertex_value : VertexKind → VIndex → Ratio
  vertex_value kind at = vertex_of (ring_at named.root) named.given (values_of named.given kind) at.a at.b at.c

  -- a mark of a label
  abbrev pub mark_value : MarkKind → ℕ → Ratio
  mark_value kind a = mark_of (ring_at named.root) named.given (marks_of named.given kind) a

  -- The lines of a triple, and of a symbol: its word, the names of its labels, and the number.
  abbrev pub fuse_line : VIndex → List (List ℕ)
  fuse_line at = codes "fuse" ∷ name_of named.names at.a ∷ name_of named.names at.b ∷ name_of named.names at.c ∷ []

  abbrev pub f_line : FIndex → List (List ℕ)
  f_line at = f_words named.names at (f_value at)

  abbrev pub vertex_line : VertexKind → VIndex → List (List ℕ)
  vertex_line kind at =
      kind_word kind ∷ name_of named.names at.a ∷ name_of named.names at.b ∷ name_of named.names at.c ∷ spelled_number (vertex_value kind at) ∷ []

  abbrev pub mark_line : MarkKind → ℕ → List (List ℕ)
  mark_line kind a = mark_word kind ∷ name_of named.names a ∷ spelled_number (mark_value kind a) ∷ []

  -- A triple has a line where its first two labels aren't the unit, and a symbol where its index is admissible and its
  -- value isn't 1; so has a mark of a label. In version 1 all marks are 1.
  abbrev pub has_fuse_line : VIndex → Bool
  has_fuse_line at = not (at.a == UNIT) && (not (at.b == UNIT) && named.given.fuse at.a at.b at.c)

  abbrev pub has_f_line : FIndex → Bool
  has_f_line at = f_index_admissible named.given at && not (is_one named.root (f_value at))

  abbrev pub has_vertex_line : VertexKind → VIndex → Bool
  has_vertex_line kind at = named.given.fuse at.a at.b at.c && not (is_one named.root (vertex_value kind at))

  abbrev pub has_mark_line : MarkKind → ℕ → Bool
  has_mark_line kind a = nat_lt a named.given.count && not (is_one named.root (mark_value kind a))

  -- Groups of lines, each in the order of its labels.
  abbrev pub fuse_lines : List (List (List ℕ))
  fuse_lines = map fuse_line (filter has_fuse_line (vertices named.given.count))

  abbrev pub f_lines : List (List (List ℕ))
  f_lines = map f_line (filter has_f_line (sixes named.given.count))

  abbrev pub vertex_lines : VertexKind → List (List (List ℕ))
  vertex_lines kind = map (vertex_line kind) (filter (has_vertex_line kind) (vertices named.given.count))

  abbrev pub mark_lines : MarkKind → List (List (List ℕ))
  mark_lines kind = map (mark_line kind) (filter (has_mark_line kind) (counting 0 named.given.count))

  abbrev pub head_lines : List (List (List ℕ))
  head_lines = (codes "category" ∷ version_word named.given.version ∷ []) ∷ (codes "root" ∷ decimal named.root ∷ []) ∷ (codes "labels" ∷ named.names) ∷ []

  -- the head, the triples, F, R, w and v, and the marks
  abbrev pub canonical_lines : List (List (List ℕ))
  canonical_lines = head_lines ++ (fuse_lines ++ (f_lines ++ (vertex_lines OnR ++ (vertex_lines OnW ++ (vertex_lines OnV ++ (mark_lines OnTwist ++ mark_lines OnLoop))))))

  unfoldable pub canonical : List ℕ
  canonical = spelled canonical_lines
