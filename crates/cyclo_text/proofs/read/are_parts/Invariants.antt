use Rattle.std.proofs.Common.{◌≡◌, length}
use Rattle.std.specs.List.{list_all}
use Rattle.cyclo_text.specs.NumberWords.{comma, pieces, is_part}
use Rattle.cyclo_text.proofs.read.are_parts.Given as goal

abbrev pub invariant-loop-part : goal.invariant-loop-part
invariant-loop-part l = list_all is_part l.pieces ≡ list_all is_part (pieces comma l.front)

abbrev pub decreases-loop-part : goal.decreases-loop-part
decreases-loop-part l = length l.pieces
