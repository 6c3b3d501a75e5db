use Rattle.program_text.proofs.tree_reading.+front_tree.Given as goal

abbrev pub decreases-front_tree : goal.decreases-front_tree
decreases-front_tree l = l.depth
