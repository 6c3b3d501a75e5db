use Rattle.std.proofs.Common.{◌≡◌, ◌+◌}
use Rattle.std.specs.Prelude.{◌+ℤ◌}
use Rattle.poly_core.specs.Table.{at}
use Rattle.cyclo_core.specs.Ratio.{product_term, product_size_term}
use Rattle.cyclo_core.specs.Sums.{int_sum, nat_sum}
use Rattle.cyclo_core.proofs.sums.add_row.Given as goal

abbrev pub invariant-loop-b : goal.invariant-loop-b
invariant-loop-b l = record {
  value : l.tally.value ≡ l.initial.tally.value +ℤ int_sum l.b (product_term l.powers (at l.x) (at l.y) l.j l.a);
  size : l.tally.size ≡ l.initial.tally.size + nat_sum l.b (product_size_term l.powers (at l.x) (at l.y) l.j l.a);
}
