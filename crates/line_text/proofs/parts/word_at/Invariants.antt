use Rattle.std.proofs.Common.{◌≡◌, length, slice_get}
use Rattle.line_text.specs.Text.{words_of}
use Rattle.line_text.proofs.parts.word_at.Given as goal

abbrev pub invariant-loop-word : goal.invariant-loop-word
invariant-loop-word l = slice_get (words_of l.rest) l.left ≡ slice_get (words_of l.line) l.place

abbrev pub decreases-loop-word : goal.decreases-loop-word
decreases-loop-word l = length l.rest
