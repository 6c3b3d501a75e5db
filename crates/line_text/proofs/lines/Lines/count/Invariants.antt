use Rattle.std.proofs.Common.{◌≡◌, ◌+◌, ◌-◌, ◌^◌, ◌<◌, length}
use Rattle.line_text.specs.Text.{lines_of}
use Rattle.line_text.proofs.lines.Lines.count.Given as goal

abbrev pub invariant-loop-after : goal.invariant-loop-after
invariant-loop-after l = record {
  counted : l.count + length (lines_of l.rest) ≡ l.self.count;
  within : l.count + length l.rest < 2 ^ 32 - 1;
}

abbrev pub decreases-loop-after : goal.decreases-loop-after
decreases-loop-after l = length l.rest
