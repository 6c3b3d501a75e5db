use Rattle.std.proofs.Common.{◌∷◌, ◌++◌, [], ◌∙◌, List, get_or, ap, arith}
use Rattle.std.proofs.lemmas.Result.{err_from_is_err_and}
use Rattle.line_text.proofs.WritingLemmas.{still_in_front}
use Rattle.line_text.specs.Spelling.{spelled}
use Rattle.outcome_rows.specs.declared.rows.Row.{Row}
use Rattle.outcome_report.specs.Report.{row_words}
use Rattle.outcome_report.proofs.LineLemmas.{next_row}
use Rattle.outcome_report.proofs.row_lines.extend_report.Goals as goal

pub loop-row-preserved : goal.loop-row-preserved
loop-row-preserved c =
    let mid = c.loop-row.out.items in
    next_row c.args.names.now c.args.rows.now.total c.args.rows.now.list.items c.row-item.result c.loop-row.row-index c.args.out.now.items mid c.extend_row.new.out.items (omega arith) c.loop-row.invariant
    (c.in_ok-extend_row.ensures ∙ ap (λ (r : Row _ _). mid ++ spelled (row_words c.args.names.now (r.word.items, r.weight) ∷ [])) (c.row-item.is ∙ ap (λ (rows : List (Row _ _)). get_or rows c.loop-row.row-index c.row-item.result) c.deref-row-items.ensures.value))

pub returns-in_err-extend_row : goal.returns-in_err-extend_row
returns-in_err-extend_row c =
    let p = err_from_is_err_and c.from_residual-in_err-extend_row.result c.from_residual-in_err-extend_row.ensures.1 in
    rw (p.1) (still_in_front c.args.out.now.items _ c.loop-row.out.items c.extend_row.new.out.items c.loop-row.invariant c.in_err-extend_row.ensures)
