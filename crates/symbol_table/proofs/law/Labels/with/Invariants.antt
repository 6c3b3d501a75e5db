use Rattle.std.proofs.Common.{◌≡◌, take}
use Rattle.symbol_table.proofs.law.Labels.with.Given as goal

abbrev pub invariant-loop-x : goal.invariant-loop-x
invariant-loop-x l = l.labels.items ≡ take l.x-index l.self
