use Rattle.std.proofs.Common.{ℕ, ◌≡◌, List, ◌++◌, length, slice_index, ◌-◌}
use Rattle.tree_shapes.specs.Links.{IsChain}
use Rattle.tree_shapes.specs.declared.limits.TheConstants.{SETTLE_LIMIT}
use Rattle.tree_shapes.proofs.shape.follow.Given as goal

-- what is left of a row of gaps
abbrev pub invariant-loop-gap : goal.invariant-loop-gap
invariant-loop-gap l =
    (gaps : List ℕ) → IsChain (slice_index l.row) l.first gaps
    → (left : List ℕ) × IsChain (slice_index l.row) l.gap left × (l.path.items ++ left ≡ l.fn.path.items ++ gaps)

abbrev pub decreases-loop-gap : goal.decreases-loop-gap
decreases-loop-gap l = SETTLE_LIMIT - length l.path.items
