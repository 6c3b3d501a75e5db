use Rattle.std.proofs.Common.{◌≡◌, ◌-◌, ℕ, length, sym, ◌∙◌, subst, arith}
use Rattle.tree_shapes.specs.Outlines.{size}
use Rattle.recouple.specs.Rotations.{IsPlace}
use Rattle.charge_project.proofs.NodeLemmas.{left_in, right_in}
use Rattle.charge_project.proofs.weigh.vertex_at.Goals as goal

pub child_label-requires-clause-gap : goal.child_label-requires-clause-gap
child_label-requires-clause-gap c g is =
    let long : size c.args.shape.now - 1 ≡ length c.args.key.now = omega (arith, c.requires.leaves, c.requires.long) in
    subst (λ (n : ℕ). IsPlace n g) long (left_in c.args.shape.now c.args.k c.requires.low c.requires.gap g (sym c.left.ensures ∙ is))

pub child_label-requires-2-clause-gap : goal.child_label-requires-2-clause-gap
child_label-requires-2-clause-gap c g is =
    let long : size c.args.shape.now - 1 ≡ length c.args.key.now = omega (arith, c.requires.leaves, c.requires.long) in
    subst (λ (n : ℕ). IsPlace n g) long (right_in c.args.shape.now c.args.k c.requires.low c.requires.gap g (sym c.right.ensures ∙ is))
