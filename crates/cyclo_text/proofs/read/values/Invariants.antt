use Rattle.std.proofs.Common.{◌≡◌, ℕ, ◌+◌, ◌-◌, ◌^◌, ◌<◌, ◌≤◌, true, length, unsigned_abs}
use Rattle.std.specs.Prelude.{map, pos}
use Rattle.std.specs.List.{list_all}
use Rattle.poly_core.specs.Table.{at}
use Rattle.cyclo_text.specs.NumberWords.{comma, pieces, is_part, part_value, part_fits}
use Rattle.cyclo_text.proofs.read.values.Given as goal

abbrev pub invariant-loop-part : goal.invariant-loop-part
invariant-loop-part l = record {
  count : length l.pieces + l.j ≡ length (pieces comma l.front);
  parts : list_all is_part l.pieces ≡ true;
  fits : list_all part_fits l.pieces ≡ list_all part_fits (pieces comma l.front);
  ahead : (k : ℕ) → at (map part_value (pieces comma l.front)) (l.j + k) ≡ at (map part_value l.pieces) k;
  value : (k : ℕ) → k < l.j → at l.numbers k ≡ at (map part_value (pieces comma l.front)) k;
  rest : (k : ℕ) → l.j ≤ k → at l.numbers k ≡ pos 0;
  len : length l.numbers ≡ 16;
  small : (k : ℕ) → unsigned_abs (at l.numbers k) ≤ 2 ^ 127 - 1;
}

abbrev pub decreases-loop-part : goal.decreases-loop-part
decreases-loop-part l = length l.pieces
