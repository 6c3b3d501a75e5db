-- The nodes of a labelled tree, by their gaps.
use Rattle.std.specs.Prelude.{ℕ, ◌+◌, ◌<◌, ◌≡◌, Bool, true, false, ◌&&◌, ◌==◌, if◌then◌else◌, Option, Some, None}
use Rattle.std.specs.Option.{option_or}
use Rattle.tree_shapes.specs.Labelled.{Labelled, Strand, Joined, label, size}

-- a gap, unless a test holds
abbrev pub gap_unless : Bool → ℕ → Option ℕ
gap_unless fits gap = if fits then None else Some gap

-- the first gap, from left to right, whose node isn't admissible, in a tree whose first strand is strand i + 1
abbrev pub bad_gap : (ℕ → ℕ → ℕ → Bool) → Labelled → ℕ → Option ℕ
bad_gap fuse (Strand a) i = None
bad_gap fuse (Joined l r q) i =
    let gap = i + size l in
    option_or (bad_gap fuse l i) (option_or (gap_unless (fuse (label l) (label r) q) gap) (bad_gap fuse r gap))

-- whether the node at a gap is admissible, or there is no node
abbrev pub is_good_at : (ℕ → ℕ → ℕ → Bool) → Labelled → ℕ → ℕ → Bool
is_good_at fuse (Strand a) i k = true
is_good_at fuse (Joined l r q) i k =
    let gap = i + size l in
    if k == gap then fuse (label l) (label r) q else is_good_at fuse l i k && is_good_at fuse r gap k

-- the node at this gap isn't admissible, and those at all lesser gaps are
pub record IsFirstBad (fuse : ℕ → ℕ → ℕ → Bool) (t : Labelled) (gap : ℕ) : Type 0 where
  pub bad : is_good_at fuse t 0 gap ≡ false
  pub least : (k : ℕ) → k < gap → is_good_at fuse t 0 k ≡ true
