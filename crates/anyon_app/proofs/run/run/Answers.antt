use Rattle.std.proofs.lemmas.Result.{err_from_is_err_and}
use Rattle.anyon_app.specs.Run.{run_work, rows_work}
use Rattle.category_text.specs.Named.{named_draft}
use Rattle.program_text.specs.Program.{program_of}
use Rattle.anyon_app.proofs.StageLemmas.{goes_on, reports, stops_here}
use Rattle.anyon_app.proofs.run.run.Goals as goal

pub returns-in_err-admitted : goal.returns-in_err-admitted
unfolding run_work
returns-in_err-admitted g c =
    let p = err_from_is_err_and c.from_residual.result c.from_residual.ensures.1 in
    rw (p.1, p.2) (c.in_err-admitted.ensures.passes.stopped _)

pub returns-in_err-plan : goal.returns-in_err-plan
unfolding run_work
returns-in_err-plan g c =
    let p = err_from_is_err_and c.from_residual-in_err-plan.result c.from_residual-in_err-plan.ensures.1 in
    rw (p.1, p.2) (c.in_ok-admitted.ensures.passes.passed _ _ _ (c.in_err-plan.ensures.passes.stopped _))

pub returns-in_err-schedule : goal.returns-in_err-schedule
unfolding run_work
returns-in_err-schedule g c =
    let p = err_from_is_err_and c.from_residual-in_err-schedule.result c.from_residual-in_err-schedule.ensures.1 in
    let admitted = c.in_ok-admitted.admitted in
    let next = rows_work (named_draft admitted.names admitted.category) (program_of c.in_ok-plan.plan) in
    rw (p.1, p.2)
    (c.in_ok-admitted.ensures.passes.passed _ _ _ (c.in_ok-plan.ensures.passes.passed _ _ _ (stops_here _ _ _ _ _ c.in_err-schedule.ensures.gives next)))

pub returns : goal.returns
unfolding run_work
returns g c =
    let admitted = c.in_ok-admitted.admitted in
    let next = rows_work (named_draft admitted.names admitted.category) (program_of c.in_ok-plan.plan) in
    c.in_ok-admitted.ensures.passes.passed _ _ _
    (c.in_ok-plan.ensures.passes.passed _ _ _ (goes_on _ _ _ _ _ _ c.in_ok-schedule.ensures.gives next _ (reports _ _ _ _ _ c.rows.ensures)))
