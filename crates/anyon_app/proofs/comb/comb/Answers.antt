use Rattle.std.proofs.lemmas.Result.{err_from_is_err_and}
use Rattle.anyon_app.specs.Comb.{comb_work}
use Rattle.anyon_app.proofs.StageLemmas.{goes_on, stops_here, reports}
use Rattle.anyon_app.proofs.comb.comb.Goals as goal

pub returns-in_err-admitted : goal.returns-in_err-admitted
unfolding comb_work
returns-in_err-admitted g c =
    let p = err_from_is_err_and c.from_residual.result c.from_residual.ensures.1 in
    rw (p.1, p.2) (c.in_err-admitted.ensures.passes.stopped _)

pub returns-in_err-plan : goal.returns-in_err-plan
unfolding comb_work
returns-in_err-plan g c =
    let p = err_from_is_err_and c.from_residual-in_err-plan.result c.from_residual-in_err-plan.ensures.1 in
    rw (p.1, p.2) (c.in_ok-admitted.ensures.passes.passed _ _ _ (c.in_err-plan.ensures.passes.stopped _))

pub returns-in_err-comb_start : goal.returns-in_err-comb_start
unfolding comb_work
returns-in_err-comb_start g c =
    let p = err_from_is_err_and c.from_residual-in_err-comb_start.result c.from_residual-in_err-comb_start.ensures.1 in
    rw (p.1, p.2)
    (c.in_ok-admitted.ensures.passes.passed _ _ _ (c.in_ok-plan.ensures.passes.passed _ _ _ (stops_here _ _ _ _ _ c.in_err-comb_start.ensures.gives _)))

pub returns : goal.returns
unfolding comb_work
returns g c =
    c.in_ok-admitted.ensures.passes.passed _ _ _
    (c.in_ok-plan.ensures.passes.passed _ _ _ (goes_on _ _ _ _ _ _ c.in_ok-comb_start.ensures.gives _ _ (reports _ _ _ _ _ c.rows.ensures)))
