use Rattle.std.proofs.Common.{◌≡◌, length}
use Rattle.word_moves.specs.Reading.{moves_on}
use Rattle.word_moves.proofs.reading.read_lines.Given as goal

abbrev pub invariant-loop-line : goal.invariant-loop-line
invariant-loop-line l = moves_on l.list.items l.lines.ahead ≡ moves_on l.fn.list.items l.fn.lines.ahead

abbrev pub decreases-loop-line : goal.decreases-loop-line
decreases-loop-line l = length l.lines.ahead
