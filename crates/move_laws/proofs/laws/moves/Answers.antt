use Rattle.move_laws.proofs.Counts.{moves_keep_gaps}
use Rattle.move_laws.proofs.laws.moves.Goals as goal

pub returns : goal.returns
returns c = moves_keep_gaps
