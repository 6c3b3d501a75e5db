use Rattle.std.proofs.Common.{◌≡◌, ◌≤◌, ◌+◌, ◌-◌, drop, length}
use Rattle.word_moves.specs.Verdicts.{first_different}
use Rattle.word_moves.proofs.verdict.first_different.Given as goal

abbrev pub invariant-loop-at : goal.invariant-loop-at
invariant-loop-at l = record {
  same : first_different (l.at + 1) (drop l.at l.left) (drop l.at l.right) ≡ first_different 1 l.left l.right;
  left : l.at ≤ length l.left;
  right : l.at ≤ length l.right;
}

abbrev pub decreases-loop-at : goal.decreases-loop-at
decreases-loop-at l = length l.left - l.at
