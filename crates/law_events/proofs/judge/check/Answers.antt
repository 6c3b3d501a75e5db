use Rattle.std.proofs.Common.{sym, ◌∙◌}
use Rattle.std.proofs.lemmas.Option.{none-some}
use Rattle.symbol_table.specs.Draft.{given}
use Rattle.symbol_table.specs.Category.{draft_symbols}
use Rattle.law_events.specs.Sides.{first_of}
use Rattle.law_events.proofs.Firsts.{law_holds, no_event}
use Rattle.law_events.proofs.Judged.{judges_right}
use Rattle.law_events.proofs.judge.check.Goals as goal

pub returns-in-None-clause-lawful : goal.returns-in-None-clause-lawful
returns-in-None-clause-lawful g c =
    let ring = g.R.StarRing.ring c.args.draft.now.ring in
    let symbols = draft_symbols ring g.R.StarRing.held c.args.draft.now in
    let right = judges_right ring g.R.StarRing.held (g.met.R.StarRing.laws c.args.draft.now.ring) (given c.args.draft.now) c.args.law in
    law_holds symbols c.args.law right (sym {b = first_of symbols c.args.law} c.in-None.ensures)

pub returns-clause-complete : goal.returns-clause-complete
returns-clause-complete g c = λ holds fits.
    let ring = g.R.StarRing.ring c.args.draft.now.ring in
    let symbols = draft_symbols ring g.R.StarRing.held c.args.draft.now in
    let right = judges_right ring g.R.StarRing.held (g.met.R.StarRing.laws c.args.draft.now.ring) (given c.args.draft.now) c.args.law in
    let none = no_event symbols c.args.law right c.f_is_of_ring.ensures holds fits in
    absurd (none-some c.in-Some.event (sym none ∙ sym {b = first_of symbols c.args.law} c.in-Some.ensures))
