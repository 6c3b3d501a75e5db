use Rattle.std.proofs.Common.{◌≡◌, ◌≤◌, length}
use Rattle.line_text.specs.Text.{words_of}
use Rattle.line_text.proofs.parts.first_word.Given as goal

abbrev pub invariant-loop-part : goal.invariant-loop-part
invariant-loop-part l = record { same : words_of l.rest ≡ words_of l.line; within : length l.rest ≤ length l.line }

abbrev pub decreases-loop-part : goal.decreases-loop-part
decreases-loop-part l = length l.rest
