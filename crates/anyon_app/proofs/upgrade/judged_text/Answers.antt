use Rattle.std.proofs.Common.{Ok, ap, ◌∙◌}
use Rattle.std.proofs.lemmas.Result.{err_from_is_err_and}
use Rattle.category_text.specs.Canonical.{canonical}
use Rattle.category_text.specs.Named.{seen}
use Rattle.program_text.specs.Steps.{◌>>=◌}
use Rattle.anyon_app.specs.Verdicts.{category_verdict, unless}
use Rattle.anyon_app.proofs.NewLemmas.{up_then}
use Rattle.anyon_app.proofs.upgrade.judged_text.Goals as goal

pub returns-in_err-judge : goal.returns-in_err-judge
returns-in_err-judge c =
    let p = err_from_is_err_and c.from_residual-in_err-judge.result c.from_residual-in_err-judge.ensures.1 in
    rw (p.1, p.2) (up_then _ (unless (category_verdict (seen c.args.named))) (λ _. Ok (canonical (seen c.args.named))) c.in_err-judge.ensures.gives)

pub returns : goal.returns
returns c = ap (λ s. s >>= (λ _. Ok (canonical (seen c.args.named)))) c.in_ok-judge.ensures.gives ∙ c.in_ok-text.ensures
