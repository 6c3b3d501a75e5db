use Rattle.std.proofs.Common.{◌≡◌, ℕ, length}
use Rattle.category_text.specs.Answers.{body_said, fusing}
use Rattle.category_text.proofs.line_reading.read_fusions.Given as goal

abbrev pub invariant-loop-line : goal.invariant-loop-line
invariant-loop-line l = record {
  said : (version ring : ℕ) → body_said (fusing version ring l.names l.fn.rules) l.fn.lines.ahead ≡ body_said (fusing version ring l.names l.rules) l.lines.ahead;
  count : l.rules.count ≡ l.fn.rules.count;
}

abbrev pub decreases-loop-line : goal.decreases-loop-line
decreases-loop-line l = length l.lines.ahead
