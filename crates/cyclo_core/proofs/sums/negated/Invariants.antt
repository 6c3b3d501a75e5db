use Rattle.std.proofs.Common.{◌≡◌, ℕ, ◌<◌, ◌≤◌, ◌^◌, ◌-◌, unsigned_abs, length}
use Rattle.std.specs.Prelude.{pos, neg_ℤ}
use Rattle.poly_core.specs.Table.{at}
use Rattle.cyclo_core.proofs.sums.negated.Given as goal

abbrev pub invariant-loop-j : goal.invariant-loop-j
invariant-loop-j l = record {
  value : (k : ℕ) → k < l.j → at l.out k ≡ neg_ℤ (at l.x k);
  rest : (k : ℕ) → l.j ≤ k → at l.out k ≡ pos 0;
  len : length l.out ≡ 16;
  small : (k : ℕ) → unsigned_abs (at l.out k) ≤ 2 ^ 127 - 1;
}
