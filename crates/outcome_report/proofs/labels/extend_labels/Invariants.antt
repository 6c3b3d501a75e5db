use Rattle.std.proofs.Common.{◌≡◌, ◌++◌, take}
use Rattle.line_text.specs.Writing.{spaced_on}
use Rattle.outcome_report.specs.Labels.{label_names}
use Rattle.outcome_report.proofs.labels.extend_labels.Given as goal

abbrev pub invariant-loop-label : goal.invariant-loop-label
invariant-loop-label l = l.out.items ≡ l.fn.out.items ++ spaced_on (take l.label-index (label_names l.names l.labels))
