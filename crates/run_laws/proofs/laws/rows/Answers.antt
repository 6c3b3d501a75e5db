use Rattle.run_laws.proofs.RowLemmas.{rows_in_order, text_rows, schedule_rows}
use Rattle.run_laws.proofs.laws.rows.Goals as goal

pub returns-clause-in_order : goal.returns-clause-in_order
returns-clause-in_order g c =
    let engine = c.args._engine.now in
    let e = g.E.Meaning in
    rows_in_order (e.count engine) (e.act engine) (e.Good engine) (e.nought engine) (e.Stands engine) (e.weigh engine) (e.weight engine) (e.zero engine) (g.met.E.Meaning.weighing engine)

pub returns-clause-text : goal.returns-clause-text
returns-clause-text g c =
    let engine = c.args._engine.now in
    let e = g.E.Meaning in
    text_rows (e.count engine) (e.act engine) (e.Good engine) (e.nought engine) (e.Stands engine) (e.weigh engine) (e.weight engine) (e.zero engine) (g.met.E.Meaning.weighing engine)
    (e.told engine) (g.met.E.Meaning.shapes engine) (g.met.E.Meaning.faithful engine)

pub returns-clause-schedules : goal.returns-clause-schedules
returns-clause-schedules g c =
    let engine = c.args._engine.now in
    let e = g.E.Meaning in
    schedule_rows (e.count engine) (e.act engine) (e.Good engine) (e.nought engine) (e.Stands engine) (e.weigh engine) (e.weight engine) (e.zero engine) (g.met.E.Meaning.weighing engine)
    (e.told engine) (g.met.E.Meaning.shapes engine) (g.met.E.Meaning.faithful engine) (g.met.E.Meaning.far engine)
