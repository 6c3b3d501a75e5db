use Rattle.std.proofs.Common.{◌+◌, ◌∙◌, length, ap, sym, subst}
use Rattle.word_runs.specs.Lives.{lives_of}
use Rattle.word_runs.specs.Runs.{fitting, Stops}
use Rattle.outcome_rows.specs.Evaluated.{rows_at}
use Rattle.outcome_rows.proofs.RowLemmas.{weighed}
use Rattle.outcome_rows.proofs.rows.text_rows.Goals as goal

pub returns-in-Ok : goal.returns-in-Ok
returns-in-Ok g c = λ stated is.
    let seen = g.E.Engine.seen c.args.engine.now in
    let zero = g.R.StarRing.held.is_zero in
    weighed (g.E.Engine.told c.args.engine.now) stated zero (seen c.args.start) c.args.commands.now (lives_of seen c.in_ok-ends.ends.items) c.in_ok-ends.ensures.stated
    ∙ (ap (λ ws. fitting (1 + length c.args.commands.now) (rows_at stated zero (lives_of seen ws))) (sym c.as_slice.ensures.value) ∙ c.in-Ok.ensures stated is)

pub returns : goal.returns
returns g c = λ stated is.
    let seen = g.E.Engine.seen c.args.engine.now in
    let zero = g.R.StarRing.held.is_zero in
    subst (Stops c.in-Err.fault)
    (sym (weighed (g.E.Engine.told c.args.engine.now) stated zero (seen c.args.start) c.args.commands.now (lives_of seen c.in_ok-ends.ends.items) c.in_ok-ends.ensures.stated
    ∙ ap (λ ws. fitting (1 + length c.args.commands.now) (rows_at stated zero (lives_of seen ws))) (sym c.as_slice.ensures.value)))
    (c.in-Err.ensures stated is)
