use Rattle.std.proofs.Common.{◌≡◌, ℕ, ◌<◌, ◌≤◌}
use Rattle.std.specs.Prelude.{pos}
use Rattle.poly_core.specs.Table.{at}
use Rattle.cyclo_text.proofs.write.part_count.Given as goal

abbrev pub invariant-loop-count : goal.invariant-loop-count
invariant-loop-count l = record {
  some : 0 < l.count;
  few : l.count ≤ 16;
  past : (j : ℕ) → l.count ≤ j → at l.number.numerators j ≡ pos 0;
}

abbrev pub decreases-loop-count : goal.decreases-loop-count
decreases-loop-count l = l.count
