use Rattle.std.proofs.Common.{◌≡◌, ◌+◌, length}
use Rattle.cyclo_text.specs.NumberWords.{comma, pieces}
use Rattle.cyclo_text.proofs.read.has_at_most.Given as goal

abbrev pub invariant-loop-count : goal.invariant-loop-count
invariant-loop-count l = length l.pieces + l._count ≡ length (pieces comma l.front)
