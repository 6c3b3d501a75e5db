use Rattle.std.proofs.Common.{◌≡◌, take}
use Rattle.poly_core.proofs.with_top.Given as goal

abbrev pub invariant-loop-coefficient : goal.invariant-loop-coefficient
invariant-loop-coefficient l = l.poly.items ≡ take l.coefficient-index l.low
