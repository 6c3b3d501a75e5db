use Rattle.std.proofs.Common.{sym, ap, ◌∙◌}
use Rattle.std.proofs.lemmas.Result.{err_from_is_err_and}
use Rattle.category_text.specs.Answers.{body_said}
use Rattle.category_text.specs.declared.kind.LineKind.TheVariants.{Fusion}
use Rattle.category_text.proofs.BodyLemmas.{fusion_late, kind_refused, late, lined_ok}
use Rattle.category_text.proofs.line_reading.next_symbol_line.Goals as goal

pub returns-in_err-on_line-clause-found : goal.returns-in_err-on_line-clause-found
returns-in_err-on_line-clause-found c =
    let p = err_from_is_err_and c.from_residual-in_err-on_line.result c.from_residual-in_err-on_line.ensures.1 in
    let found = (rw c.in-Some.is at c.in_ok-line.ensures).0 in
    rw (p.1, p.2) (λ said. ap (body_said (late said)) found
    ∙ kind_refused c.in-Some.line.number c.in-Some.line.text.now c.next_line.new.self.ahead (late said) c.line_kind.result c.in_err-on_line.field-0.0 c.in_err-on_line.ensures c.line_kind.ensures)

pub returns-in-Fusion-clause-found : goal.returns-in-Fusion-clause-found
returns-in-Fusion-clause-found c = λ said.
    let line = c.in-Some.line in
    let found = (rw c.in-Some.is at c.in_ok-line.ensures).0 in
    let is = sym c.line_kind.ensures ∙ lined_ok line.number c.line_kind.result Fusion (rw c.in-Fusion.is at c.in_ok-on_line.ensures) in
    ap (body_said (late said)) found ∙ fusion_late line.number line.text.now c.next_line.new.self.ahead said is
