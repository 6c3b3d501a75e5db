use Rattle.std.proofs.lemmas.Result.{err_from_is_err_and}
use Rattle.anyon_app.proofs.MakeLemmas.{stops_at_turns}
use Rattle.anyon_app.proofs.make.report.Goals as goal

pub returns-in_err-schedule : goal.returns-in_err-schedule
returns-in_err-schedule c =
    let p = err_from_is_err_and c.from_residual-in_err-schedule.result c.from_residual-in_err-schedule.ensures.1 in
    rw (p.1, p.2) (stops_at_turns _ _ _ _ c.in_ok-admitted.ensures.gives c.in_ok-plan.ensures.gives c.in_err-schedule.ensures.gives)
