use Rattle.std.proofs.Common.{codes}
use Rattle.cyclo_text.specs.NumberWords.{spelled_number}
use Rattle.outcome_report.specs.Labels.{label_names}
use Rattle.outcome_report.proofs.LineLemmas.{amp_more}
use Rattle.outcome_report.proofs.state_lines.extend_amp.Goals as goal

pub returns : goal.returns
returns c =
    amp_more (codes "amp") (label_names c.args.names.now c.args.key.now) (spelled_number c.args.number.now) c.args.out.now.items c.extend_from_slice.new.self.items
    c.extend_labels.new.out.items c.extend_number.new.out.items c.end_line.new.out.items
    c.in_ok-extend_from_slice.ensures.items c.in_ok-extend_labels.ensures c.in_ok-extend_number.ensures c.in_ok-end_line.ensures
