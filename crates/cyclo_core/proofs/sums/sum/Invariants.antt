use Rattle.std.proofs.Common.{◌≡◌, ℕ, ◌+◌, ◌*◌, ◌<◌, ◌≤◌, ◌^◌, ◌-◌, unsigned_abs, length}
use Rattle.std.specs.Prelude.{pos, ◌+ℤ◌, ◌*ℤ◌}
use Rattle.poly_core.specs.Table.{at}
use Rattle.cyclo_core.proofs.sums.sum.Given as goal

abbrev pub invariant-loop-j : goal.invariant-loop-j
invariant-loop-j l = record {
  value : (k : ℕ) → k < l.j → at l.out k ≡ at l.x k *ℤ pos l.left +ℤ (at l.y k *ℤ pos l.right);
  fits : (k : ℕ) → k < l.j → unsigned_abs (at l.x k) * l.left + unsigned_abs (at l.y k) * l.right ≤ 2 ^ 127 - 1;
  rest : (k : ℕ) → l.j ≤ k → at l.out k ≡ pos 0;
  len : length l.out ≡ 16;
  small : (k : ℕ) → unsigned_abs (at l.out k) ≤ 2 ^ 127 - 1;
}
