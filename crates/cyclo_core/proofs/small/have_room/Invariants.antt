use Rattle.std.proofs.Common.{ℕ, ◌^◌, ◌<◌, ◌≤◌}
use Rattle.std.specs.Prelude.{unsigned_abs}
use Rattle.poly_core.specs.Table.{at}
use Rattle.cyclo_core.proofs.small.have_room.Given as goal

abbrev pub invariant-loop-j : goal.invariant-loop-j
invariant-loop-j l = (k : ℕ) → k < l.j → unsigned_abs (at l.x k) ≤ 2 ^ 126
