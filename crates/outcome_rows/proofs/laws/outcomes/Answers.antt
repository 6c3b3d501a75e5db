use Rattle.outcome_rows.proofs.OutcomeLemmas.{ends_in_outcomes}
use Rattle.outcome_rows.proofs.laws.outcomes.Goals as goal

pub returns : goal.returns
returns g c =
    let engine = c.args._engine.now in
    let e = g.E.Meaning in
    ends_in_outcomes (e.told engine) (e.count engine) (e.act engine) (e.Good engine) (e.nought engine) (e.Stands engine) (e.weigh engine) (e.weight engine) (e.zero engine)
    (g.met.E.Meaning.shapes engine) (g.met.E.Meaning.faithful engine) (g.met.E.Meaning.weighing engine)
