use Rattle.std.proofs.Common.{sym, arith}
use Rattle.recouple.proofs.RotationLemmas.{parent_range}
use Rattle.recouple.proofs.rotation.rotation_at.Goals as goal

pub right_spot-requires-then-k-parent-clause-gap : goal.right_spot-requires-then-k-parent-clause-gap
right_spot-requires-then-k-parent-clause-gap c =
    let range = parent_range c.args.shape.now 0 c.args.k c.in_ok-parent.parent (sym c.in_ok-parent.ensures) in omega (arith, range.1)

pub left_spot-requires-else-k-parent-clause-some : goal.left_spot-requires-else-k-parent-clause-some
left_spot-requires-else-k-parent-clause-some c =
    (parent_range c.args.shape.now 0 c.args.k c.in_ok-parent.parent (sym c.in_ok-parent.ensures)).0
