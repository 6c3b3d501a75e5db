use Rattle.std.proofs.Common.{length}
use Rattle.comb_run.proofs.weigh.+weights_along.Given as goal

abbrev pub decreases-weights_along : goal.decreases-weights_along
decreases-weights_along g l = length l.strands.now
