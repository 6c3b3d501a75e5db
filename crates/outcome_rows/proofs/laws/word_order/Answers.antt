use Rattle.outcome_rows.proofs.WordLemmas.{sorted_in_word_order}
use Rattle.outcome_rows.proofs.laws.word_order.Goals as goal

pub returns : goal.returns
returns g c =
    let engine = c.args._engine.now in
    let e = g.E.Meaning in
    sorted_in_word_order (e.count engine) (e.act engine) (e.Good engine) (e.nought engine) (e.Stands engine)
