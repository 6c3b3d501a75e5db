use Rattle.std.proofs.Common.{◌≡◌, ◌<◌, ◌+◌, ap, arith}
use Rattle.tree_shapes.specs.declared.tree.Fork.{Fork}
use Rattle.tree_shapes.specs.Labelled.{size}
use Rattle.tree_shapes.specs.Views.{labelled}
use Rattle.recouple.proofs.StartLemmas.{size_above}
use Rattle.recouple.proofs.begin.+push_labels.Goals as goal

pub push-requires-in-Node : goal.push-requires-in-Node
push-requires-in-Node t c =
    let l = labelled c.in-Node.fork.value.left in
    let r = labelled c.in-Node.fork.value.right in
    let whole : size (labelled c.args.tree.now) ≡ size l + size r = ap (λ u. size (labelled u)) c.in-Node.is in
    let same : size (labelled c.deref.result.now.left) ≡ size l = ap (λ (f : Fork). size (labelled f.left)) c.deref.ensures in
    let some : 0 < size r = size_above r in
    (omega arith, omega (arith, c.push_labels.ensures.longer_key, c.requires.key))
