-- The vector of a list of entries, by keys.
use Rattle.std.specs.Prelude.{◌≡◌, not, is_some, slice_index, ◌++◌, ℕ, Bool, List, [], ◌∷◌, map, Option, Some, None, if◌then◌else◌, unwrap_or, true, false, IsTrue, slice_set}
use Rattle.std.specs.Str.{bytes_eq}
use Rattle.std.specs.List.{list_all, range_with_len}
use Rattle.std.specs.List.Sorted.{IsStrictlySortedBy}
use Rattle.std.specs.Ordering.{nat_cmp}
use Rattle.std.specs.Cmp.Lexicographic.{slice_cmp}
use Rattle.std.specs.Map.{keys_of}
use Rattle.arrayvec.specs.ArrayVec.{ArrayVec}
use Rattle.ring_laws.specs.Ring.{Ring}
use Rattle.symbol_table.specs.Symbols.{Symbols}
use Rattle.comb_laws.specs.Paths.{Path, Vector, is_path, labels}

-- the path over the strands whose nodes have the labels of a key: the unit, the first strand, and a label after each
-- further one
abbrev pub path_of : List ℕ → List ℕ → Path
path_of [] key = 0 ∷ key
path_of (s ∷ strands) key = 0 ∷ s ∷ key

-- the paths of these keys
abbrev pub paths_of : List ℕ → List (ArrayVec ℕ) → List Path
paths_of strands keys = map (λ key. path_of strands key.items) keys

-- what the entries have at a path over the strands
abbrev pub entry_at : {E : Type 0} → List ℕ → List (ArrayVec ℕ × E) → Path → Option E
entry_at strands [] x = None
entry_at strands (e ∷ es) x = if bytes_eq x (path_of strands e.0.items) then Some e.1 else entry_at strands es x

-- an absent path has zero
abbrev pub vector_of : {E : Type 0} → Ring E → List ℕ → List (ArrayVec ℕ × E) → Vector E
vector_of r strands es x = unwrap_or (entry_at strands es x) r.zero

-- the path with each of n labels from u on at place k
abbrev pub row_from : ℕ → ℕ → ℕ → Path → List Path
row_from u n k x = map (λ l. slice_set x k l) (range_with_len u n)

-- the paths that agree with this one at all places but k
abbrev pub row_of : ℕ → ℕ → Path → List Path
row_of count k x = row_from 0 count k x

-- whether a path is the first of its row that has an entry: no smaller label at place k has one
abbrev pub is_first : {E : Type 0} → List ℕ → List (ArrayVec ℕ × E) → ℕ → Path → Bool
is_first strands es k x =
    list_all (λ l. not (is_some (entry_at strands es (slice_set x k l)))) (labels (slice_index x k))

-- the rows of those of these paths that are the first of theirs
abbrev pub rows_of_first : {E : Type 0} → ℕ → ℕ → List ℕ → List (ArrayVec ℕ × E) → List Path → List Path
rows_of_first count k strands es [] = []
rows_of_first count k strands es (x ∷ xs) =
    if is_first strands es k x then row_of count k x ++ rows_of_first count k strands es xs else rows_of_first count k strands es xs

-- the lists that agree with a path that has an entry at all places but k, each row once
abbrev pub targets_of : {E : Type 0} → ℕ → ℕ → List ℕ → List (ArrayVec ℕ × E) → List Path
targets_of count k strands es = rows_of_first count k strands es (paths_of strands (keys_of es))

-- the labels of each of these paths
abbrev pub items_of : List (ArrayVec ℕ) → List Path
items_of ps = map (λ p. p.items) ps

-- the keys are in the order of lists of labels, and none stands twice
abbrev pub AreOrdered : {E : Type 0} → List (ArrayVec ℕ × E) → Type 0
AreOrdered es = IsStrictlySortedBy (λ (a b : ArrayVec ℕ). slice_cmp nat_cmp a.items b.items) (keys_of es)

-- every value is of the ring
abbrev pub AreMembers : {E : Type 0} → Ring E → List ℕ → List (ArrayVec ℕ × E) → Type 0
AreMembers {E} r strands es = (x : Path) (v : E) → entry_at strands es x ≡ Some v → IsTrue (r.member v)

-- The entries are those of a vector over the strands: members that aren't zero, at paths.
pub record AreEntries {E : Type 0} (c : Symbols E) (strands : List ℕ) (es : List (ArrayVec ℕ × E)) : Type 0 where
  pub members : AreMembers c.ring strands es
  pub paths : (x : Path) (v : E) → entry_at strands es x ≡ Some v → is_path c strands x ≡ true
  pub nonzero : (x : Path) (v : E) → entry_at strands es x ≡ Some v → c.held.is_zero v ≡ false
