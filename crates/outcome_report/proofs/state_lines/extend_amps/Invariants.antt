use Rattle.std.proofs.Common.{◌≡◌, ◌++◌, map, take}
use Rattle.line_text.specs.Spelling.{spelled}
use Rattle.outcome_report.specs.TreeReport.{amp_words}
use Rattle.outcome_report.proofs.state_lines.extend_amps.Given as goal

abbrev pub invariant-loop-place : goal.invariant-loop-place
invariant-loop-place l = l.out.items ≡ l.fn.out.items ++ spelled (map (amp_words l.names) (take l.place l.amps))
