use Rattle.std.proofs.Common.{◌≡◌}
use Rattle.category_maker.specs.MadeCategory.{label_names}
use Rattle.category_maker.proofs.names.label_names.Given as goal

abbrev pub invariant-loop-k : goal.invariant-loop-k
invariant-loop-k l = l.names ≡ label_names l.k
