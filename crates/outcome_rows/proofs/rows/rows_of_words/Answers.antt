use Rattle.std.proofs.Common.{◌∙◌, ap, sym, arith, drop_of_length-le}
use Rattle.word_runs.specs.Lives.{lives_of}
use Rattle.ring_laws.specs.Stated.{steps_over}
use Rattle.outcome_rows.specs.Evaluated.{row_added, row_step, rows_at}
use Rattle.outcome_rows.specs.Rows.{rows_of}
use Rattle.outcome_rows.proofs.RowLemmas.{rows_next}
use Rattle.outcome_rows.proofs.rows.rows_of_words.Goals as goal

pub loop-live-preserved : goal.loop-live-preserved
loop-live-preserved g c = λ stated is.
    let seen = g.E.Engine.seen c.args.engine.now in
    let zero = g.R.StarRing.held.is_zero in
    rows_next seen stated zero c.args.words.now c.loop-live.live-index c.live-item.result c.live-item.is (omega arith) (rows_of c.loop-live.rows.items)
    (rows_at stated zero (lives_of seen c.args.words.now)) (c.loop-live.invariant stated is) c.in_ok-weight.weight (rows_of c.push_row.new.rows.items) (is _ _ c.in_ok-weight.ensures)
    (c.in_ok-push_row.ensures ∙ ap (λ w. row_added zero w c.in_ok-weight.weight (rows_of c.loop-live.rows.items)) c.as_slice.ensures.value)

pub returns-clause-rows : goal.returns-clause-rows
returns-clause-rows g c = λ stated is.
    let seen = g.E.Engine.seen c.args.engine.now in
    let zero = g.R.StarRing.held.is_zero in
    sym (c.loop-live.invariant stated is)
    ∙ ap (λ ws. steps_over (row_step stated zero) (lives_of seen ws) (rows_of c.loop-live.rows.items)) (drop_of_length-le c.args.words.now c.loop-live-test.false)
