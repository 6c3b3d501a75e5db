use Rattle.std.proofs.Common.{◌≡◌, ◌+◌, ◌-◌, ◌^◌, ◌<◌, length}
use Rattle.line_text.specs.Text.{reading_of}
use Rattle.line_text.proofs.lines.Lines.next_line.Given as goal

abbrev pub invariant-loop-line : goal.invariant-loop-line
invariant-loop-line l = record {
  same : reading_of l.self-inside.passed l.self-inside.rest.now ≡ l.fn.self;
  within : l.self-inside.passed + length l.self-inside.rest.now < 2 ^ 32 - 1;
}

abbrev pub decreases-loop-line : goal.decreases-loop-line
decreases-loop-line l = length l.self-inside.rest.now
