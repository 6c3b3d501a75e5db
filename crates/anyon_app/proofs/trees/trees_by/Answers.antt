use Rattle.std.proofs.lemmas.Result.{err_from_is_err_and}
use Rattle.anyon_app.specs.Trees.{trees_by_work}
use Rattle.anyon_app.proofs.StageLemmas.{reports}
use Rattle.anyon_app.proofs.trees.trees_by.Goals as goal

pub returns-in_err-admitted : goal.returns-in_err-admitted
unfolding trees_by_work
returns-in_err-admitted g c =
    let p = err_from_is_err_and c.from_residual.result c.from_residual.ensures.1 in
    rw (p.1, p.2) (c.in_err-admitted.ensures.passes.stopped _)

pub returns-in_err-plan : goal.returns-in_err-plan
unfolding trees_by_work
returns-in_err-plan g c =
    let p = err_from_is_err_and c.from_residual-in_err-plan.result c.from_residual-in_err-plan.ensures.1 in
    rw (p.1, p.2) (c.in_ok-admitted.ensures.passes.passed _ _ _ (c.in_err-plan.ensures.passes.stopped _))

pub returns-in_err-schedule : goal.returns-in_err-schedule
unfolding trees_by_work
returns-in_err-schedule g c =
    let p = err_from_is_err_and c.from_residual-in_err-schedule.result c.from_residual-in_err-schedule.ensures.1 in
    rw (p.1, p.2)
    (c.in_ok-admitted.ensures.passes.passed _ _ _ (c.in_ok-plan.ensures.passes.passed _ _ _ (c.in_err-schedule.ensures.passes.stopped _)))

pub returns : goal.returns
unfolding trees_by_work
returns g c =
    c.in_ok-admitted.ensures.passes.passed _ _ _
    (c.in_ok-plan.ensures.passes.passed _ _ _ (c.in_ok-schedule.ensures.passes.passed _ _ _ (reports _ _ _ _ _ c.states.ensures)))
