use Rattle.std.proofs.Common.{◌≡◌, ℕ, ◌-◌, ◌^◌, ◌<◌, ◌≤◌, length}
use Rattle.std.specs.Prelude.{◌+ℤ◌, unsigned_abs}
use Rattle.poly_core.specs.Table.{at}
use Rattle.cyclo_core.proofs.small.add_all.Given as goal

abbrev pub invariant-loop-j : goal.invariant-loop-j
invariant-loop-j l = record {
  value : (k : ℕ) → k < l.j → at l.x k ≡ at l.initial.x k +ℤ at l.by k;
  ahead : (k : ℕ) → l.j ≤ k → at l.x k ≡ at l.initial.x k;
  small : (k : ℕ) → unsigned_abs (at l.x k) ≤ 2 ^ 127 - 1;
  len : length l.x ≡ 16;
}
