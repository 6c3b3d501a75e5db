use Rattle.std.proofs.Common.{◌≡◌, ℕ, ◌<◌, ◌≤◌, length}
use Rattle.std.specs.Prelude.{pos}
use Rattle.poly_core.specs.Table.{at}
use Rattle.cyclo_core.proofs.small.head.Given as goal

abbrev pub invariant-loop-j : goal.invariant-loop-j
invariant-loop-j l = record {
  value : (k : ℕ) → k < l.j → at l.out k ≡ at l.c k;
  rest : (k : ℕ) → l.j ≤ k → at l.out k ≡ pos 0;
  len : length l.out ≡ 16;
}
