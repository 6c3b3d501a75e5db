-- What stands under a node of a shape, read by gaps.
use Rattle.std.specs.Prelude.{ℕ, ◌<◌, List, Option, Some, None}
use Rattle.std.specs.Fmt.{decimal}
use Rattle.tree_shapes.specs.Outlines.{Outline, size, node_at}
use Rattle.outcome_report.specs.TreeReport.{shape_text}

-- the gap is one of the shape, if there is one
abbrev pub IsTop : Outline → Option ℕ → Type 0
IsTop t None = Unit {0}
IsTop t (Some k) = (0 < k) × (k < size t)

-- the text of the part whose top is at the gap; without a gap it is the strand with this number
abbrev pub part_text : Outline → Option ℕ → ℕ → List ℕ
part_text t None strand = decimal strand
part_text t (Some k) strand = let part = node_at t 0 k in shape_text part.tree part.start

-- how many strands the part has, and none where it is a strand
abbrev pub part_size : Outline → Option ℕ → ℕ
part_size t None = 0
part_size t (Some k) = size (node_at t 0 k).tree
