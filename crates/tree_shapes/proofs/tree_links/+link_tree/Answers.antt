use Rattle.std.proofs.Common.{◌≡◌, ◌<◌, ◌+◌, sym, ap, subst, arith}
use Rattle.tree_shapes.specs.declared.limits.TheConstants.{STRAND_LIMIT}
use Rattle.tree_shapes.specs.Labelled.{Labelled, size as tree_size}
use Rattle.tree_shapes.specs.Links.{Sets, rows_of}
use Rattle.tree_shapes.specs.Outlines.{outline_of, size}
use Rattle.tree_shapes.specs.Views.{labelled}
use Rattle.tree_shapes.proofs.ContextLemmas.{size_above}
use Rattle.tree_shapes.proofs.JoinLinks.{outline_size, sets_both, top_below, tree_is}
use Rattle.tree_shapes.proofs.tree_links.+link_tree.Goals as goal

pub join-requires-clause-gap : goal.join-requires-clause-gap
join-requires-clause-gap t c =
    let l = labelled c.deref.result.now.left in
    let r = labelled c.deref-in-Node.result.now.right in
    let is = tree_is (labelled c.args.tree.now) c.in-Node.fork.value c.deref.result.now c.deref-in-Node.result.now (ap labelled c.in-Node.is) c.deref.ensures c.deref-in-Node.ensures in
    let whole : tree_size (labelled c.args.tree.now) ≡ tree_size l + tree_size r = ap tree_size is in
    let some : 0 < size (outline_of r) = size_above (outline_of r) in
    omega (arith, c.link_tree-first.ensures.leaves, outline_size r, c.requires.room)

pub join-requires-clause-first : goal.join-requires-clause-first
join-requires-clause-first t c =
    let l = labelled c.deref.result.now.left in
    let r = labelled c.deref-in-Node.result.now.right in
    let is = tree_is (labelled c.args.tree.now) c.in-Node.fork.value c.deref.result.now c.deref-in-Node.result.now (ap labelled c.in-Node.is) c.deref.ensures c.deref-in-Node.ensures in
    let whole : tree_size (labelled c.args.tree.now) ≡ tree_size l + tree_size r = ap tree_size is in
    top_below (outline_of l) c.args.start c.link_tree-first.result.top STRAND_LIMIT
    (rows_of c.args.left.now c.args.right.now c.args.parent.now) (rows_of c.link_tree-first.new.left c.link_tree-first.new.right c.link_tree-first.new.parent)
    c.link_tree-first.ensures.set (omega (arith, outline_size l, c.requires.room))

pub join-requires-clause-second : goal.join-requires-clause-second
join-requires-clause-second t c =
    let l = labelled c.deref.result.now.left in
    let r = labelled c.deref-in-Node.result.now.right in
    let is = tree_is (labelled c.args.tree.now) c.in-Node.fork.value c.deref.result.now c.deref-in-Node.result.now (ap labelled c.in-Node.is) c.deref.ensures c.deref-in-Node.ensures in
    let whole : tree_size (labelled c.args.tree.now) ≡ tree_size l + tree_size r = ap tree_size is in
    top_below (outline_of r) (c.args.start + c.link_tree-first.result.leaves) c.link_tree-second.result.top STRAND_LIMIT
    (rows_of c.link_tree-first.new.left c.link_tree-first.new.right c.link_tree-first.new.parent)
    (rows_of c.link_tree-second.new.left c.link_tree-second.new.right c.link_tree-second.new.parent)
    c.link_tree-second.ensures.set (omega (arith, c.link_tree-first.ensures.leaves, outline_size r, c.requires.room))

pub returns-in-Node-clause-set : goal.returns-in-Node-clause-set
returns-in-Node-clause-set t c =
    let l = labelled c.deref.result.now.left in
    let r = labelled c.deref-in-Node.result.now.right in
    let is = tree_is (labelled c.args.tree.now) c.in-Node.fork.value c.deref.result.now c.deref-in-Node.result.now (ap labelled c.in-Node.is) c.deref.ensures c.deref-in-Node.ensures in
    let old = rows_of c.args.left.now c.args.right.now c.args.parent.now in
    let first = rows_of c.link_tree-first.new.left c.link_tree-first.new.right c.link_tree-first.new.parent in
    let second = rows_of c.link_tree-second.new.left c.link_tree-second.new.right c.link_tree-second.new.parent in
    let new = rows_of c.join.new.left c.join.new.right c.join.new.parent in
    let gap : c.args.start + c.link_tree-first.result.leaves ≡ c.args.start + size (outline_of l) = omega (arith, c.link_tree-first.ensures.leaves, outline_size l) in
    subst (λ (x : Labelled). Sets (outline_of x) c.args.start (c.args.start + c.link_tree-first.result.leaves) old new) (sym is)
    (sets_both (outline_of l) (outline_of r) c.args.start (c.args.start + c.link_tree-first.result.leaves) c.link_tree-first.result.top c.link_tree-second.result.top
    old first second new gap c.link_tree-first.ensures.set c.link_tree-second.ensures.set c.join.ensures)
