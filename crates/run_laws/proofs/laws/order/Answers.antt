use Rattle.run_laws.proofs.OrderLemmas.{sorted_ends, ends_in_order}
use Rattle.run_laws.proofs.laws.order.Goals as goal

pub returns-clause-sorted : goal.returns-clause-sorted
returns-clause-sorted g c =
    let engine = c.args._engine.now in
    sorted_ends (g.E.Meaning.count engine) (g.E.Meaning.act engine) (g.E.Meaning.Good engine) (g.E.Meaning.nought engine) (g.E.Meaning.Stands engine)

pub returns-clause-living : goal.returns-clause-living
returns-clause-living g c =
    let engine = c.args._engine.now in
    ends_in_order (g.E.Meaning.count engine) (g.E.Meaning.act engine) (g.E.Meaning.Good engine) (g.E.Meaning.nought engine) (g.E.Meaning.Stands engine)
