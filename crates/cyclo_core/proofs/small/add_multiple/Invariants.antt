use Rattle.std.proofs.Common.{◌≡◌, ℕ, ◌+◌, ◌^◌, ◌<◌, ◌≤◌, length}
use Rattle.std.specs.Prelude.{◌+ℤ◌, ◌*ℤ◌, unsigned_abs}
use Rattle.poly_core.specs.Table.{at}
use Rattle.cyclo_core.proofs.small.add_multiple.Given as goal

abbrev pub invariant-loop-j : goal.invariant-loop-j
invariant-loop-j l = record {
  value : (k : ℕ) → k < l.j → at l.out k ≡ at l.initial.out k +ℤ (l.c *ℤ at l.row k);
  ahead : (k : ℕ) → l.j ≤ k → at l.out k ≡ at l.initial.out k;
  size : (k : ℕ) → unsigned_abs (at l.out k) ≤ unsigned_abs (at l.initial.out k) + 2 ^ 56;
  len : length l.out ≡ 16;
}
