use Rattle.std.proofs.lemmas.Result.{err_from_is_err_and}
use Rattle.anyon_app.specs.NewCategories.{product_work}
use Rattle.anyon_app.proofs.StageLemmas.{reports}
use Rattle.anyon_app.proofs.new_categories.product.Goals as goal

pub returns-in_err-one : goal.returns-in_err-one
unfolding product_work
returns-in_err-one g c =
    let p = err_from_is_err_and c.from_residual.result c.from_residual.ensures.1 in
    rw (p.1, p.2) (c.in_err-one.ensures.passes.stopped _)

pub returns-in_err-two : goal.returns-in_err-two
unfolding product_work
returns-in_err-two g c =
    let p = err_from_is_err_and c.from_residual-in_err-two.result c.from_residual-in_err-two.ensures.1 in
    rw (p.1, p.2) (c.in_ok-one.ensures.passes.passed _ _ _ (c.in_err-two.ensures.passes.stopped _))

pub returns : goal.returns
unfolding product_work
returns g c = c.in_ok-one.ensures.passes.passed _ _ _ (c.in_ok-two.ensures.passes.passed _ _ _ (reports _ _ _ _ _ c.product_text.ensures))
