use Rattle.line_text.proofs.WritingLemmas.{line_more}
use Rattle.outcome_report.specs.Labels.{label_names}
use Rattle.outcome_report.proofs.labels.extend_label_line.Goals as goal

pub returns : goal.returns
returns c =
    line_more c.args.first.now (label_names c.args.names.now c.args.labels.now) c.args.out.now.items c.extend_from_slice.new.self.items c.extend_labels.new.out.items c.end_line.new.out.items
    c.in_ok-extend_from_slice.ensures.items c.in_ok-extend_labels.ensures c.in_ok-end_line.ensures
