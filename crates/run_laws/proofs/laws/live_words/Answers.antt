use Rattle.run_laws.proofs.EndMeaning.{text_ends, schedule_ends}
use Rattle.run_laws.proofs.laws.live_words.Goals as goal

pub returns-clause-text : goal.returns-clause-text
returns-clause-text g c =
    let engine = c.args._engine.now in
    text_ends (g.E.Meaning.told engine) (g.met.E.Meaning.shapes engine) (g.E.Meaning.count engine) (g.E.Meaning.act engine) (g.E.Meaning.Good engine) (g.E.Meaning.nought engine) (g.E.Meaning.Stands engine)
    (g.met.E.Meaning.faithful engine)

pub returns-clause-schedules : goal.returns-clause-schedules
returns-clause-schedules g c =
    let engine = c.args._engine.now in
    schedule_ends (g.E.Meaning.told engine) (g.met.E.Meaning.shapes engine) (g.E.Meaning.count engine) (g.E.Meaning.act engine) (g.E.Meaning.Good engine) (g.E.Meaning.nought engine) (g.E.Meaning.Stands engine)
    (g.met.E.Meaning.faithful engine) (g.met.E.Meaning.far engine)
