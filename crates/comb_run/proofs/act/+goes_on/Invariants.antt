use Rattle.std.proofs.Common.{length}
use Rattle.comb_run.proofs.act.+goes_on.Given as goal

abbrev pub decreases-goes_on : goal.decreases-goes_on
decreases-goes_on g l = length l.strands.now
