use Rattle.std.proofs.Common.{◌-◌}
use Rattle.category_images.proofs.WalkLemmas.{Passed}
use Rattle.category_images.proofs.walk.+fill_more.Given as goal

abbrev pub decreases-fill_more : goal.decreases-fill_more
decreases-fill_more g l = l.more

abbrev pub invariant-loop-t : goal.invariant-loop-t
invariant-loop-t g l =
    Passed (g.P.Pattern.number l.pattern) (g.P.Pattern.wanted l.pattern) (g.P.Pattern.stated l.pattern) l.symbol (l.more - 1) l.index l.initial.made l.t l.made
