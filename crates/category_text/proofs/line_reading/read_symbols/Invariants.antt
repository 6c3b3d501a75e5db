use Rattle.std.proofs.Common.{◌≡◌, length}
use Rattle.category_text.specs.Answers.{body_said, left_of, setting}
use Rattle.category_text.proofs.line_reading.read_symbols.Given as goal

abbrev pub invariant-loop-next : goal.invariant-loop-next
invariant-loop-next l = record {
  said : body_said (setting l.names l.fn.draft) (left_of l.fn.first l.fn.lines.ahead) ≡ body_said (setting l.names l.draft) (left_of l.next l.lines.ahead);
  rules : l.draft.rules ≡ l.fn.draft.rules;
}

abbrev pub decreases-loop-next : goal.decreases-loop-next
decreases-loop-next l = length (left_of l.next l.lines.ahead)
