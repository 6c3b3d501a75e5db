use Rattle.std.proofs.Common.{◌≡◌, ℕ, ◌<◌, length}
use Rattle.poly_core.specs.Table.{at}
use Rattle.category_maker.proofs.powers.widened.Given as goal

abbrev pub invariant-loop-j : goal.invariant-loop-j
invariant-loop-j l = record {
  same : (i : ℕ) → i < l.j → at l.wide i ≡ at l.row i;
  whole : length l.wide ≡ 16;
}
