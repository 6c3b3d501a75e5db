use Rattle.std.proofs.Common.{◌≡◌, take}
use Rattle.comb_run.proofs.key.key_of.Given as goal

abbrev pub invariant-loop-x : goal.invariant-loop-x
invariant-loop-x l = l.key.items ≡ take l.x-index l.labels
