use Rattle.std.proofs.Common.{◌≡◌}
use Rattle.poly_core.specs.Table.{at}
use Rattle.cyclo_core.specs.Image.{image_term, image_size_term}
use Rattle.cyclo_core.specs.Sums.{int_sum, nat_sum}
use Rattle.cyclo_core.proofs.image.image_numerator.Given as goal

abbrev pub invariant-loop-a : goal.invariant-loop-a
invariant-loop-a l = record {
  value : l.tally.value ≡ int_sum l.a (image_term l.powers l.k (at l.x) l.j);
  size : l.tally.size ≡ nat_sum l.a (image_size_term l.powers l.k (at l.x) l.j);
}
