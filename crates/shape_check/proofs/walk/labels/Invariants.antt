use Rattle.std.proofs.Common.{◌≡◌, take}
use Rattle.shape_check.proofs.walk.labels.Given as goal

-- the labels so far
abbrev pub invariant-loop-t : goal.invariant-loop-t
invariant-loop-t l = l.labels ≡ take l.t-index l.index
