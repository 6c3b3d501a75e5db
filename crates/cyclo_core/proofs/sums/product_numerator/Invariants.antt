use Rattle.std.proofs.Common.{◌≡◌}
use Rattle.poly_core.specs.Rho.{degree}
use Rattle.poly_core.specs.Table.{at}
use Rattle.cyclo_core.specs.Ratio.{product_term, product_size_term}
use Rattle.cyclo_core.specs.Sums.{int_sum, nat_sum}
use Rattle.cyclo_core.proofs.sums.product_numerator.Given as goal

abbrev pub invariant-loop-a : goal.invariant-loop-a
invariant-loop-a l = record {
  value : l.tally.value ≡ int_sum l.a (λ a. int_sum (degree l.powers) (product_term l.powers (at l.x) (at l.y) l.j a));
  size : l.tally.size ≡ nat_sum l.a (λ a. nat_sum (degree l.powers) (product_size_term l.powers (at l.x) (at l.y) l.j a));
}
