use Rattle.category_images.proofs.WalkLemmas.{Filling}
use Rattle.category_images.proofs.make.fill_all.Given as goal

abbrev pub invariant-loop-symbol : goal.invariant-loop-symbol
invariant-loop-symbol g l = Filling (g.P.Pattern.number l.pattern) (g.P.Pattern.wanted l.pattern) (g.P.Pattern.stated l.pattern) l.symbols l.symbol-index l.made
