use Rattle.std.proofs.Common.{◌≡◌, ℕ, ◌+◌, ◌*◌, ◌^◌, ◌<◌, length}
use Rattle.poly_core.specs.Table.{at}
use Rattle.cyclo_core.specs.Convolution.{weight, column, AreUpTo}
use Rattle.cyclo_core.specs.Sums.{int_sum}
use Rattle.cyclo_core.proofs.small.folded.Given as goal

abbrev pub invariant-loop-k : goal.invariant-loop-k
invariant-loop-k l = record {
  value : (j : ℕ) → j < 16 → at l.out j ≡ int_sum l.k (weight (at l.c) (column l.powers j));
  small : AreUpTo ((l.k + 1) * 2 ^ 56) l.out;
  len : length l.out ≡ 16;
}
