use Rattle.std.proofs.lemmas.Result.{err_from_is_err_and}
use Rattle.category_text.specs.Named.{seen}
use Rattle.anyon_app.specs.declared.texts.Kind.TheVariants.{Marks}
use Rattle.anyon_app.specs.Refusals.{too_long}
use Rattle.anyon_app.specs.Upgrade.{marks_of_text}
use Rattle.anyon_app.proofs.StageLemmas.{read_passes}
use Rattle.anyon_app.proofs.upgrade.load_marks.Goals as goal

pub returns-in_err-text-clause-passes : goal.returns-in_err-text-clause-passes
returns-in_err-text-clause-passes g c =
    let p = err_from_is_err_and c.from_residual.result c.from_residual.ensures.1 in
    rw (p.1, p.2) record { stopped = λ next. c.in_err-text.ensures.passes.stopped _; passed = tt }

pub returns-clause-passes : goal.returns-clause-passes
returns-clause-passes g c = read_passes _ _ _ _ (too_long Marks) c.args.name.now _ (marks_of_text (seen c.args.named)) _ _ c.in_ok-text.ensures.passes (rw c.deref.ensures.value at c.marked.ensures.gives)
