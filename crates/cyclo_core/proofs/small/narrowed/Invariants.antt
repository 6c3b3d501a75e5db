use Rattle.std.proofs.Common.{◌≡◌, ℕ, ◌^◌, ◌<◌, ◌≤◌, length}
use Rattle.std.specs.Prelude.{pos}
use Rattle.poly_core.specs.Table.{at}
use Rattle.cyclo_core.specs.Convolution.{AreUpTo}
use Rattle.cyclo_core.proofs.small.narrowed.Given as goal

abbrev pub invariant-loop-k : goal.invariant-loop-k
invariant-loop-k l = record {
  value : (i : ℕ) → i < l.k → at l.out i ≡ at l.x i;
  rest : (i : ℕ) → l.k ≤ i → at l.out i ≡ pos 0;
  small : AreUpTo (2 ^ 24) l.out;
  len : length l.out ≡ 16;
}
