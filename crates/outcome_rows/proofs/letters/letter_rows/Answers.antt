use Rattle.std.proofs.Common.{◌+◌, ◌∙◌, length, ap, sym, subst}
use Rattle.word_runs.specs.Lives.{lives_of}
use Rattle.word_runs.specs.Runs.{Stops, fitting}
use Rattle.outcome_rows.specs.Evaluated.{rows_at}
use Rattle.outcome_rows.specs.Rows.{rows_of}
use Rattle.outcome_rows.proofs.EndLemmas.{ends_ok, ends_rows, ends_stop}
use Rattle.outcome_rows.proofs.letters.letter_rows.Goals as goal

pub returns-in-Ok-clause-stated : goal.returns-in-Ok-clause-stated
returns-in-Ok-clause-stated g c = λ stated is.
    let seen = g.E.Engine.seen c.args.engine.now in
    let zero = g.R.StarRing.held.is_zero in
    let ends = c.in_ok-ends.ensures.stated in
    ends_ok stated zero (g.E.Engine.told c.args.engine.now) c.args.places c.args.letters.now (seen c.args.start) ends.0 (lives_of seen c.in_ok-ends.ends.items) ends.1 ends.2 (rows_of c.in-Ok.rows.items)
    (ap (λ ws. fitting (1 + length c.args.letters.now) (rows_at stated zero (lives_of seen ws))) (sym c.as_slice.ensures.value) ∙ c.in-Ok.ensures stated is)

pub returns-in-Ok-clause-rows : goal.returns-in-Ok-clause-rows
returns-in-Ok-clause-rows g c = λ stated is.
    let seen = g.E.Engine.seen c.args.engine.now in
    let zero = g.R.StarRing.held.is_zero in
    let ends = c.in_ok-ends.ensures.stated in
    ends_rows stated zero (g.E.Engine.told c.args.engine.now) c.args.places c.args.letters.now (seen c.args.start) ends.0 (lives_of seen c.in_ok-ends.ends.items) ends.1 ends.2 (rows_of c.in-Ok.rows.items)
    (ap (λ ws. fitting (1 + length c.args.letters.now) (rows_at stated zero (lives_of seen ws))) (sym c.as_slice.ensures.value) ∙ c.in-Ok.ensures stated is)

pub returns-clause-stated : goal.returns-clause-stated
returns-clause-stated g c = λ stated is.
    let seen = g.E.Engine.seen c.args.engine.now in
    let zero = g.R.StarRing.held.is_zero in
    let ends = c.in_ok-ends.ensures.stated in
    ends_stop stated zero (g.E.Engine.told c.args.engine.now) c.args.places c.args.letters.now (seen c.args.start) ends.0 (lives_of seen c.in_ok-ends.ends.items) ends.1 ends.2 c.in-Err.fault
    (subst (λ ws. Stops c.in-Err.fault (fitting (1 + length c.args.letters.now) (rows_at stated zero (lives_of seen ws)))) c.as_slice.ensures.value (c.in-Err.ensures stated is))
