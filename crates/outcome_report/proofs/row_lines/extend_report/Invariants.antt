use Rattle.std.proofs.Common.{◌≡◌, ◌++◌, take}
use Rattle.line_text.specs.Spelling.{spelled}
use Rattle.outcome_report.proofs.LineLemmas.{row_lines}
use Rattle.outcome_report.proofs.row_lines.extend_report.Given as goal

abbrev pub invariant-loop-row : goal.invariant-loop-row
invariant-loop-row l = l.out.items ≡ l.fn.out.items ++ spelled (row_lines l.names l.rows.total (take l.row-index l.rows.list.items))
