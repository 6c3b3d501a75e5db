use Rattle.std.proofs.lemmas.Result.{err_from_is_err_and}
use Rattle.anyon_app.specs.Format.{format_work}
use Rattle.anyon_app.proofs.StageLemmas.{reports}
use Rattle.anyon_app.proofs.format.format.Goals as goal

pub returns-in_err-named : goal.returns-in_err-named
unfolding format_work
returns-in_err-named g c =
    let p = err_from_is_err_and c.from_residual.result c.from_residual.ensures.1 in
    rw (p.1, p.2) (c.in_err-named.ensures.passes.stopped _)

pub returns : goal.returns
unfolding format_work
returns g c = c.in_ok-named.ensures.passes.passed _ _ _ (reports _ _ _ _ _ c.canonical_text.ensures)
