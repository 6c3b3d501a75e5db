use Rattle.std.proofs.Common.{ℕ, ◌<◌, ◌≤◌, ◌^◌, ◌-◌, unsigned_abs}
use Rattle.poly_core.specs.Table.{at}
use Rattle.cyclo_core.proofs.number.are_small.Given as goal

abbrev pub invariant-loop-j : goal.invariant-loop-j
invariant-loop-j l = (k : ℕ) → k < l.j → unsigned_abs (at l.nums k) ≤ 2 ^ 127 - 1
