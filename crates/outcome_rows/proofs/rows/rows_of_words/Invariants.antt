use Rattle.std.proofs.Common.{◌≡◌, Option, drop}
use Rattle.ring_laws.specs.Stated.{steps_over}
use Rattle.word_runs.specs.Lives.{lives_of}
use Rattle.outcome_rows.specs.Evaluated.{AreWeights, row_step, rows_at}
use Rattle.outcome_rows.specs.Rows.{rows_of}
use Rattle.outcome_rows.proofs.rows.rows_of_words.Given as goal

-- for every weight that the calls tell, what is left gives all rows
abbrev pub invariant-loop-live : goal.invariant-loop-live
invariant-loop-live g l =
    let seen = g.E.Engine.seen l.engine in
    let zero = g.R.StarRing.held.is_zero in
    (stated : g.E.Engine.Seen → Option g.row.R-Elem.Denot) → AreWeights (goal.F-post g l.weigh) (λ state. seen state.now) stated
    → steps_over (row_step stated zero) (lives_of seen (drop l.live-index l.words)) (rows_of l.rows.items) ≡ rows_at stated zero (lives_of seen l.words)
