use Rattle.category_gate.proofs.GateLemmas.{complete, sound}
use Rattle.category_gate.proofs.laws.of_given.Goals as goal

pub returns-clause-sound : goal.returns-clause-sound
returns-clause-sound g c = λ given. sound (g.R.StarRing.ring c.args._ring.now) g.R.StarRing.held (g.met.R.StarRing.laws c.args._ring.now) given

pub returns-clause-complete : goal.returns-clause-complete
returns-clause-complete g c = λ given. complete (g.R.StarRing.ring c.args._ring.now) g.R.StarRing.held (g.met.R.StarRing.laws c.args._ring.now) given
