use Rattle.std.proofs.Common.{◌≡◌, ℕ, ◌-◌, ◌<◌, ◌≤◌, length}
use Rattle.std.specs.Prelude.{pos, ◌+ℤ◌, ◌*ℤ◌, neg_ℤ}
use Rattle.poly_core.specs.Companion.{shift}
use Rattle.poly_core.specs.Table.{at}
use Rattle.poly_core.specs.declared.limits.TheConstants.{DEGREE_LIMIT}
use Rattle.poly_core.proofs.power.next_power.Given as goal

abbrev pub invariant-loop-j : goal.invariant-loop-j
invariant-loop-j l = record {
  value : (k : ℕ) → k < l.j → at l.after k ≡ shift (at l.row) k +ℤ neg_ℤ (at l.row (length l.low - 1) *ℤ at l.low k);
  rest : (k : ℕ) → l.j ≤ k → at l.after k ≡ pos 0;
  len : length l.after ≡ DEGREE_LIMIT;
}
