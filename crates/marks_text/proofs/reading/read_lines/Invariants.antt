use Rattle.std.proofs.Common.{◌≡◌, length}
use Rattle.category_text.specs.Named.{named_draft}
use Rattle.marks_text.specs.Reading.{marks_on}
use Rattle.marks_text.proofs.reading.read_lines.Given as goal

abbrev pub invariant-loop-line : goal.invariant-loop-line
invariant-loop-line l = record {
  said : marks_on (named_draft l.names l.draft) l.lines.ahead ≡ marks_on (named_draft l.names l.fn.draft) l.fn.lines.ahead;
  rules : l.draft.rules ≡ l.fn.draft.rules;
  version : l.draft.version ≡ l.fn.draft.version;
}

abbrev pub decreases-loop-line : goal.decreases-loop-line
decreases-loop-line l = length l.lines.ahead
