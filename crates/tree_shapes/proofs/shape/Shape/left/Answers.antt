use Rattle.std.proofs.Common.{◌∙◌, subst}
use Rattle.tree_shapes.specs.Links.{AreLinks, rows_of}
use Rattle.tree_shapes.proofs.ReadLinks.{left_read}
use Rattle.tree_shapes.proofs.shape.Shape.left.Goals as goal

pub returns : goal.returns
returns c =
    let rows = rows_of c.self.inside.left c.self.inside.right c.self.inside.parent in
    c.link.ensures ∙ left_read c.self.inside.leaves rows c.args.self.now (subst (AreLinks c.self.inside.leaves rows) c.self.view_is c.self.invariant.links) c.args.k c.requires.some c.requires.gap
