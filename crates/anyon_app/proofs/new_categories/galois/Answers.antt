use Rattle.std.proofs.lemmas.Result.{err_from_is_err_and}
use Rattle.anyon_app.specs.NewCategories.{galois_work}
use Rattle.anyon_app.proofs.StageLemmas.{reports}
use Rattle.anyon_app.proofs.new_categories.galois.Goals as goal

pub returns-in_err-admitted : goal.returns-in_err-admitted
unfolding galois_work
returns-in_err-admitted g c =
    let p = err_from_is_err_and c.from_residual.result c.from_residual.ensures.1 in
    rw (p.1, p.2) (c.in_err-admitted.ensures.passes.stopped _)

pub returns : goal.returns
unfolding galois_work
returns g c = c.in_ok-admitted.ensures.passes.passed _ _ _ (reports _ _ _ _ _ c.image_by.ensures)
