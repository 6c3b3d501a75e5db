-- A tree as a labelled tree.
use Rattle.tree_shapes.specs.declared.tree.Tree.{Tree, Leaf, Node'}
use Rattle.tree_shapes.specs.Labelled.{Labelled, Strand, Joined}

-- the tree as a labelled tree, whatever its boxes stand at
abbrev pub labelled : Tree → Labelled
labelled (Leaf a) = Strand a
labelled (Node' p left right q) = Joined (labelled left) (labelled right) q
