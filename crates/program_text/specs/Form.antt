-- What labels and gaps of a program can be.
use Rattle.std.specs.Prelude.{ℕ, Bool, ◌&&◌, nat_lt}
use Rattle.tree_shapes.specs.Labelled.{Labelled, Strand, Joined}

-- every label of a tree is below a count
abbrev pub labels_below : ℕ → Labelled → Bool
labels_below count (Strand a) = nat_lt a count
labels_below count (Joined l r q) = nat_lt q count && (labels_below count l && labels_below count r)

-- a gap between two of so many strands
abbrev pub is_gap : ℕ → ℕ → Bool
is_gap strands gap = nat_lt 0 gap && nat_lt gap strands
