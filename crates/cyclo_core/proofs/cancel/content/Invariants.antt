use Rattle.std.proofs.Common.{◌≡◌}
use Rattle.poly_core.specs.Table.{at}
use Rattle.cyclo_core.specs.Content.{content}
use Rattle.cyclo_core.proofs.cancel.content.Given as goal

abbrev pub invariant-loop-j : goal.invariant-loop-j
invariant-loop-j l = l.divisor ≡ content l.first l.j (at l.numbers)
