use Rattle.std.proofs.Common.{◌++◌, ◌∙◌, List, ℕ, ap, codes}
use Rattle.line_text.specs.Writing.{spaced_on}
use Rattle.cyclo_text.specs.NumberWords.{spelled_number}
use Rattle.outcome_report.specs.Labels.{label_names}
use Rattle.outcome_report.proofs.LineLemmas.{row_more}
use Rattle.outcome_report.proofs.row_lines.extend_row.Goals as goal

pub returns : goal.returns
returns c =
    row_more (codes "outcome") (label_names c.args.names.now c.args.row.now.word.items) (codes "weight") (spelled_number c.args.row.now.weight) c.args.out.now.items c.extend_from_slice.new.self.items
    c.extend_labels.new.out.items c.extend_from_slice-2.new.self.items c.extend_number.new.out.items c.end_line.new.out.items c.in_ok-extend_from_slice.ensures.items
    (c.in_ok-extend_labels.ensures ∙ ap (λ (w : List ℕ). c.extend_from_slice.new.self.items ++ spaced_on (label_names c.args.names.now w)) c.deref.ensures.value)
    c.in_ok-extend_from_slice-2.ensures.items c.in_ok-extend_number.ensures c.in_ok-end_line.ensures
