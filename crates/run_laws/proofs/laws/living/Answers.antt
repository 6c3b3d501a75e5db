use Rattle.run_laws.proofs.ExactEnds.{text_words, schedule_words}
use Rattle.run_laws.proofs.laws.living.Goals as goal

pub returns-clause-text : goal.returns-clause-text
returns-clause-text g c =
    let engine = c.args._engine.now in
    let e = g.E.Meaning in
    text_words (e.told engine) (g.met.E.Meaning.shapes engine) (e.count engine) (e.act engine) (e.Good engine) (e.nought engine) (e.Stands engine) (g.met.E.Meaning.faithful engine) (g.met.E.Exact.exact engine)

pub returns-clause-schedules : goal.returns-clause-schedules
returns-clause-schedules g c =
    let engine = c.args._engine.now in
    let e = g.E.Meaning in
    schedule_words (e.told engine) (g.met.E.Meaning.shapes engine) (e.count engine) (e.act engine) (e.Good engine) (e.nought engine) (e.Stands engine) (g.met.E.Meaning.faithful engine) (g.met.E.Exact.exact engine)
    (g.met.E.Meaning.far engine)
