use Rattle.std.proofs.Common.{◌≡◌, ◌++◌, take}
use Rattle.line_text.specs.Spelling.{spelled}
use Rattle.outcome_report.proofs.LineLemmas.{tree_lines}
use Rattle.outcome_report.proofs.state_lines.extend_tree_report.Given as goal

abbrev pub invariant-loop-live : goal.invariant-loop-live
invariant-loop-live l = l.out.items ≡ l.fn.out.items ++ spelled (tree_lines l.names l.first (λ s. s) (take l.live-index l.ends))
