use Rattle.std.proofs.lemmas.Result.{err_from_is_err_and}
use Rattle.anyon_app.specs.Upgrade.{upgrade_work}
use Rattle.anyon_app.proofs.StageLemmas.{reports}
use Rattle.anyon_app.proofs.upgrade.upgrade.Goals as goal

pub returns-in_err-named : goal.returns-in_err-named
unfolding upgrade_work
returns-in_err-named g c =
    let p = err_from_is_err_and c.from_residual.result c.from_residual.ensures.1 in
    rw (p.1, p.2) (c.in_err-named.ensures.passes.stopped _)

pub returns-in_err-marked : goal.returns-in_err-marked
unfolding upgrade_work
returns-in_err-marked g c =
    let p = err_from_is_err_and c.from_residual-in_err-marked.result c.from_residual-in_err-marked.ensures.1 in
    rw (p.1, p.2) (c.in_ok-named.ensures.passes.passed _ _ _ (c.in_err-marked.ensures.passes.stopped _))

pub returns : goal.returns
unfolding upgrade_work
returns g c = c.in_ok-named.ensures.passes.passed _ _ _ (c.in_ok-marked.ensures.passes.passed _ _ _ (reports _ _ _ _ _ c.judged_text.ensures))
