use Rattle.std.proofs.Common.{◌≡◌, take}
use Rattle.comb_run.proofs.key.copied.Given as goal

abbrev pub invariant-loop-s : goal.invariant-loop-s
invariant-loop-s l = l.copy.items ≡ take l.s-index l.strands.items
