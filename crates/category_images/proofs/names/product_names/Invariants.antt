use Rattle.std.proofs.Common.{◌≡◌}
use Rattle.category_images.specs.Names.{pair_names}
use Rattle.category_images.proofs.names.product_names.Given as goal

abbrev pub invariant-loop-k : goal.invariant-loop-k
invariant-loop-k l = l.names ≡ pair_names l.k
