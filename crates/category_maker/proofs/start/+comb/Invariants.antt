use Rattle.category_maker.proofs.start.+comb.Given as goal

abbrev pub decreases-comb : goal.decreases-comb
decreases-comb l = l.nodes
