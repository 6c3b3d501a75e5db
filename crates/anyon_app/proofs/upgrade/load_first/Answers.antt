use Rattle.std.proofs.lemmas.Result.{err_from_is_err_and}
use Rattle.category_text.specs.Named.{seen}
use Rattle.anyon_app.specs.Upgrade.{version_verdict}
use Rattle.anyon_app.specs.Verdicts.{unless}
use Rattle.anyon_app.proofs.StageLemmas.{judge_passes}
use Rattle.anyon_app.proofs.upgrade.load_first.Goals as goal

pub returns-in_err-named-clause-passes : goal.returns-in_err-named-clause-passes
returns-in_err-named-clause-passes g c =
    let p = err_from_is_err_and c.from_residual.result c.from_residual.ensures.1 in
    rw (p.1, p.2) record { stopped = λ next. c.in_err-named.ensures.passes.stopped _; passed = tt }

pub returns-clause-passes : goal.returns-clause-passes
returns-clause-passes g c =
    judge_passes _ _ _ _ seen _ c.in_ok-named.named (λ named. unless (version_verdict named)) seen _
    c.in_ok-named.ensures.passes c.of_first_version.ensures.gives c.of_first_version.ensures.same
