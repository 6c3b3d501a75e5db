use Rattle.std.proofs.Common.{◌≡◌, map, take}
use Rattle.std.specs.Prelude.{◌%◌}
use Rattle.category_images.proofs.pairs.seconds.Given as goal

abbrev pub invariant-loop-a : goal.invariant-loop-a
invariant-loop-a l = l.labels ≡ map (λ a. a % l.k) (take l.a-index l.index)
