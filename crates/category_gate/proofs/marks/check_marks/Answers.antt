use Rattle.symbol_table.specs.Draft.{given}
use Rattle.symbol_table.specs.Laws.{mark_laws}
use Rattle.category_gate.proofs.GateLemmas.{answers_complete, answers_lawful}
use Rattle.category_gate.proofs.marks.check_marks.Goals as goal

pub returns-clause-lawful : goal.returns-clause-lawful
returns-clause-lawful g c =
    answers_lawful (g.R.StarRing.ring c.args.draft.now.ring) g.R.StarRing.held (g.met.R.StarRing.laws c.args.draft.now.ring) (given c.args.draft.now) mark_laws c.check_each.result c.check_each.ensures

pub returns-clause-complete : goal.returns-clause-complete
returns-clause-complete g c =
    answers_complete (g.R.StarRing.ring c.args.draft.now.ring) g.R.StarRing.held (g.met.R.StarRing.laws c.args.draft.now.ring) (given c.args.draft.now) mark_laws c.check_each.result c.check_each.ensures
    c.f_is_of_ring.ensures
