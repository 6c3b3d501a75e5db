use Rattle.weight_check.specs.Order.{weight_laws}
use Rattle.weight_check.proofs.AnswerLemmas.{tells_complete, tells_lawful}
use Rattle.weight_check.proofs.check.Goals as goal

pub returns-clause-lawful : goal.returns-clause-lawful
returns-clause-lawful g c =
    tells_lawful (g.R.StarRing.ring c.args.draft.now.ring) g.R.StarRing.held (g.met.R.StarRing.laws c.args.draft.now.ring) c.args.draft.now c.f_is_of_ring.ensures weight_laws c.derive_checked.result
    c.derive_checked.ensures

pub returns-clause-complete : goal.returns-clause-complete
returns-clause-complete g c =
    tells_complete (g.R.StarRing.ring c.args.draft.now.ring) g.R.StarRing.held (g.met.R.StarRing.laws c.args.draft.now.ring) c.args.draft.now c.f_is_of_ring.ensures weight_laws
    c.derive_checked.result c.derive_checked.ensures
