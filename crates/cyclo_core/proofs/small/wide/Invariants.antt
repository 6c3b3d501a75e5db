use Rattle.std.proofs.Common.{◌≡◌, ℕ, ◌-◌, ◌^◌, ◌<◌, ◌≤◌, length}
use Rattle.std.specs.Prelude.{pos, unsigned_abs}
use Rattle.poly_core.specs.Table.{at}
use Rattle.cyclo_core.proofs.small.wide.Given as goal

abbrev pub invariant-loop-j : goal.invariant-loop-j
invariant-loop-j l = record {
  value : (k : ℕ) → k < l.j → at l.out k ≡ at l.x k;
  rest : (k : ℕ) → l.j ≤ k → at l.out k ≡ pos 0;
  small : (k : ℕ) → unsigned_abs (at l.out k) ≤ 2 ^ 127 - 1;
  len : length l.out ≡ 16;
}
