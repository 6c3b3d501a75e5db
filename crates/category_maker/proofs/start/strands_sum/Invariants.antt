use Rattle.std.proofs.Common.{◌≡◌, ◌≤◌, ◌*◌}
use Rattle.category_maker.specs.MadeProgram.{strands_sum}
use Rattle.category_maker.proofs.start.strands_sum.Given as goal

abbrev pub invariant-loop-before : goal.invariant-loop-before
invariant-loop-before l = record {
  sum : l.sum ≡ strands_sum l.n l.before;
  few : l.sum ≤ 12 * l.before;
}
