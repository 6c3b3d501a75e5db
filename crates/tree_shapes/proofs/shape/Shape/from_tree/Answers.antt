use Rattle.std.proofs.Common.{◌≡◌, ◌≤◌, ◌∙◌, sym, set, arith}
use Rattle.tree_shapes.specs.declared.limits.TheConstants.{STRAND_LIMIT}
use Rattle.tree_shapes.specs.Outlines.{outline_of, size}
use Rattle.tree_shapes.specs.Views.{labelled}
use Rattle.tree_shapes.specs.Links.{rows_of}
use Rattle.tree_shapes.proofs.RaiseLinks.{shape_of, outline_is}
use Rattle.tree_shapes.proofs.JoinLinks.{outline_size, rooted}
use Rattle.tree_shapes.proofs.shape.Shape.from_tree.Goals as goal

pub invariant_of-result : goal.invariant_of-result
invariant_of-result c =
    let w = c.link_tree-whole in
    let t = outline_of (labelled c.args.tree.now) in
    let leaves : size t ≡ w.result.leaves = outline_size (labelled c.args.tree.now) ∙ sym w.ensures.leaves in
    let few : w.result.leaves ≤ STRAND_LIMIT = omega (arith, w.ensures.leaves, c.requires.few) in
    shape_of w.result.leaves (rows_of w.new.left (set w.new.right 0 w.result.top) (set w.new.parent w.result.top 0)) t (omega (arith, w.ensures.leaves, c.requires.some)) few
    (rooted t w.result.leaves w.result.top w.new.left w.new.right w.new.parent w.auto.right w.auto.parent few leaves w.ensures.set.top_is w.ensures.set.linked)

pub returns : goal.returns
returns c =
    let w = c.link_tree-whole in
    let t = outline_of (labelled c.args.tree.now) in
    let leaves : size t ≡ w.result.leaves = outline_size (labelled c.args.tree.now) ∙ sym w.ensures.leaves in
    let few : w.result.leaves ≤ STRAND_LIMIT = omega (arith, w.ensures.leaves, c.requires.few) in
    outline_is w.result.leaves (rows_of w.new.left (set w.new.right 0 w.result.top) (set w.new.parent w.result.top 0)) t
    (rooted t w.result.leaves w.result.top w.new.left w.new.right w.new.parent w.auto.right w.auto.parent few leaves w.ensures.set.top_is w.ensures.set.linked)
