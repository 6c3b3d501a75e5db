use Rattle.std.proofs.lemmas.Result.{err_from_is_err_and}
use Rattle.category_text.specs.Named.{named_draft, seen}
use Rattle.anyon_app.specs.Verdicts.{category_verdict, unless}
use Rattle.anyon_app.proofs.StageLemmas.{judge_passes}
use Rattle.anyon_app.proofs.programs.load_admitted.Goals as goal

pub returns-in_err-named-clause-passes : goal.returns-in_err-named-clause-passes
returns-in_err-named-clause-passes g c =
    let p = err_from_is_err_and c.from_residual.result c.from_residual.ensures.1 in
    rw (p.1, p.2) record { stopped = λ next. c.in_err-named.ensures.passes.stopped _; passed = tt }

pub returns-clause-passes : goal.returns-clause-passes
returns-clause-passes g c =
    judge_passes _ _ _ _ seen _ c.in_ok-named.named (λ named. unless (category_verdict named)) (λ admitted. named_draft admitted.names admitted.category) _
    c.in_ok-named.ensures.passes c.judge.ensures.gives c.judge.ensures.kept
