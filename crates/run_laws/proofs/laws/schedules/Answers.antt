use Rattle.run_laws.proofs.Apart as far
use Rattle.run_laws.proofs.laws.schedules.Goals as goal

pub returns : goal.returns
returns g c =
    let engine = c.args._engine.now in
    far.every_schedule (g.E.Meaning.told engine).strands (g.E.Meaning.act engine) (g.E.Meaning.Good engine) (g.met.E.Meaning.far engine)
