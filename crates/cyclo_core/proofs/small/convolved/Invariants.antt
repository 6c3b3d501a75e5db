use Rattle.std.proofs.Common.{◌≡◌, ℕ, ◌*◌, ◌^◌, ◌≤◌, length}
use Rattle.std.specs.Prelude.{pos}
use Rattle.poly_core.specs.Combination.{Sequence}
use Rattle.poly_core.specs.Table.{at}
use Rattle.cyclo_core.specs.Convolution.{row_sum, weighed, AreUpTo}
use Rattle.cyclo_core.specs.Sums.{int_sum}
use Rattle.cyclo_core.proofs.small.convolved.Given as goal

abbrev pub invariant-loop-a : goal.invariant-loop-a
invariant-loop-a l = record {
  value : (r : Sequence) → weighed l.c r ≡ int_sum l.a (row_sum (at l.x) (at l.y) r);
  small : AreUpTo (l.a * 2 ^ 52) l.c;
  past : (k : ℕ) → 2 * l.end ≤ k → at l.c k ≡ pos 0;
  len : length l.c ≡ 32;
}
