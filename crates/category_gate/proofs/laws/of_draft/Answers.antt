use Rattle.symbol_table.specs.Draft.{given}
use Rattle.category_gate.proofs.GateLemmas.{complete, sound}
use Rattle.category_gate.proofs.laws.of_draft.Goals as goal

pub returns-clause-sound : goal.returns-clause-sound
returns-clause-sound g c = sound (g.R.StarRing.ring c.args.draft.now.ring) g.R.StarRing.held (g.met.R.StarRing.laws c.args.draft.now.ring) (given c.args.draft.now)

pub returns-clause-complete : goal.returns-clause-complete
returns-clause-complete g c =
    complete (g.R.StarRing.ring c.args.draft.now.ring) g.R.StarRing.held (g.met.R.StarRing.laws c.args.draft.now.ring) (given c.args.draft.now) c.f_is_of_ring.ensures
