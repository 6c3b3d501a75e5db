use Rattle.std.proofs.Common.{◌+◌, ◌∙◌, ap, Err, arith}
use Rattle.word_runs.specs.Lives.{lives_of}
use Rattle.word_runs.specs.Runs.{fitting}
use Rattle.word_runs.specs.declared.fault.RunFault.TheVariants.{Stop}
use Rattle.word_runs.specs.declared.fault.RunStop.TheVariants.{Overflow}
use Rattle.outcome_rows.specs.Evaluated.{rows_at}
use Rattle.outcome_rows.proofs.RowLemmas.{stops_there}
use Rattle.outcome_rows.proofs.rows.end_rows.Goals as goal

pub returns-in-Ok : goal.returns-in-Ok
returns-in-Ok g c = λ stated is. ap (fitting (1 + c.args.turns)) (c.in-Ok.ensures.rows stated is)

pub returns-in-Err : goal.returns-in-Err
returns-in-Err g c = λ stated is.
    let seen = g.E.Engine.seen c.args.engine.now in
    let zero = g.R.StarRing.held.is_zero in
    stops_there c.in-Err.fault c.in_turn.result (1 + c.args.turns) (fitting (1 + c.args.turns) (rows_at stated zero (lives_of seen c.args.ends.now)))
    (λ e. c.in_turn.ensures.too_large e ∙ ap (λ t. Stop (Overflow t)) (omega arith)) c.in_turn.ensures.memory
    (λ e. ap (fitting (1 + c.args.turns)) (c.in-Err.ensures.too_large stated is (ap Err e)))
