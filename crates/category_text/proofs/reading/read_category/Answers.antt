use Rattle.std.proofs.Common.{ℕ, sym, ap, subst, ◌∙◌}
use Rattle.std.proofs.lemmas.Result.{err_from_is_err_and}
use Rattle.cyclo_core.specs.Ratio.{Ratio}
use Rattle.symbol_table.specs.Draft.{DraftValue}
use Rattle.category_text.specs.Reading.{head_of}
use Rattle.category_text.specs.Answers.{Fails, body_said, left_of, setting}
use Rattle.category_text.proofs.KeepLemmas.{all_said}
use Rattle.category_text.proofs.WholeLemmas.{whole_said}
use Rattle.category_text.proofs.reading.read_category.Goals as goal

pub returns-in_err-first-clause-category : goal.returns-in_err-first-clause-category
returns-in_err-first-clause-category c =
    let p = err_from_is_err_and c.from_residual-in_err-first.result c.from_residual-in_err-first.ensures.1 in
    let head = c.in_ok-head.head in
    rw (p.1, p.2) (whole_said c.args.bytes.now head.version head.ring head.names c.read_head.new.lines.ahead c.new-rules.result c.count.result
    (ap head_of (sym c.new-lines.ensures) ∙ c.in_ok-head.ensures.head) c.new-rules.ensures.count c.count.ensures.count c.new-rules.ensures.triples
    ∙ c.in_err-first.ensures.said head.version head.ring)

pub returns-in_err-read_symbols-clause-category : goal.returns-in_err-read_symbols-clause-category
returns-in_err-read_symbols-clause-category c =
    let p = err_from_is_err_and c.from_residual-in_err-read_symbols.result c.from_residual-in_err-read_symbols.ensures.1 in
    let head = c.in_ok-head.head in
    rw (p.1, p.2) (subst (Fails c.in_err-read_symbols.field-0.0) (sym (whole_said c.args.bytes.now head.version head.ring head.names c.read_head.new.lines.ahead c.new-rules.result c.count.result
    (ap head_of (sym c.new-lines.ensures) ∙ c.in_ok-head.ensures.head) c.new-rules.ensures.count c.count.ensures.count c.new-rules.ensures.triples
    ∙ c.in_ok-first.ensures.said head.version head.ring
    ∙ ap (λ (draft : DraftValue ℕ Ratio). body_said (setting head.names draft) (left_of c.in_ok-first.first c.read_fusions.new.lines.ahead)) (sym c.begin-draft.ensures))) c.in_err-read_symbols.ensures.said)

pub returns-clause-category : goal.returns-clause-category
returns-clause-category c =
    let head = c.in_ok-head.head in
    whole_said c.args.bytes.now head.version head.ring head.names c.read_head.new.lines.ahead c.new-rules.result c.count.result
    (ap head_of (sym c.new-lines.ensures) ∙ c.in_ok-head.ensures.head) c.new-rules.ensures.count c.count.ensures.count c.new-rules.ensures.triples
    ∙ c.in_ok-first.ensures.said head.version head.ring
    ∙ ap (λ (draft : DraftValue ℕ Ratio). body_said (setting head.names draft) (left_of c.in_ok-first.first c.read_fusions.new.lines.ahead)) (sym c.begin-draft.ensures)
    ∙ c.in_ok-read_symbols.ensures.said

pub returns-clause-said : goal.returns-clause-said
returns-clause-said c = all_said c.args.bytes.now _ (returns-clause-category c)
