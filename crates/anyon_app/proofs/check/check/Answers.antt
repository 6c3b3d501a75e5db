use Rattle.std.proofs.lemmas.Result.{err_from_is_err_and}
use Rattle.anyon_app.specs.Replies.{done}
use Rattle.anyon_app.specs.Work.{Says}
use Rattle.anyon_app.specs.Check.{accepted, check_work}
use Rattle.anyon_app.proofs.StageLemmas.{goes_on, stops_here, reports, retold}
use Rattle.anyon_app.proofs.check.check.Goals as goal

pub returns-in_err-named : goal.returns-in_err-named
unfolding check_work
returns-in_err-named g c =
    let p = err_from_is_err_and c.from_residual.result c.from_residual.ensures.1 in
    rw (p.1, p.2) (c.in_err-named.ensures.passes.stopped _)

pub returns-in_err-admitted : goal.returns-in_err-admitted
unfolding check_work
returns-in_err-admitted g c =
    let p = err_from_is_err_and c.from_residual-in_err-admitted.result c.from_residual-in_err-admitted.ensures.1 in
    rw (p.1, p.2) (c.in_ok-named.ensures.passes.passed _ _ _ (stops_here _ _ _ _ _ c.in_err-admitted.ensures.gives _))

pub returns : goal.returns
unfolding check_work
returns g c =
    c.in_ok-named.ensures.passes.passed _ _ _
    (goes_on _ _ _ _ _ _ c.in_ok-admitted.ensures.gives _ _ (retold _ _ _ _ (λ named. Says (done (accepted named))) _ _ _ c.in_ok-admitted.ensures.kept (reports _ _ _ _ _ c.accepted.ensures)))
