use Rattle.std.proofs.Common.{◌≡◌, take}
use Rattle.comb_run.proofs.vector.copy_of.Given as goal

abbrev pub invariant-loop-x : goal.invariant-loop-x
invariant-loop-x l = l.copied.items ≡ take l.x-index l.path.items
