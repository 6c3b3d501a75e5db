use Rattle.std.proofs.Common.{◌≡◌, ℕ, ◌+◌, ◌*◌, ◌^◌, ◌≤◌, length}
use Rattle.std.specs.Prelude.{◌+ℤ◌, unsigned_abs}
use Rattle.poly_core.specs.Combination.{Sequence}
use Rattle.poly_core.specs.Table.{at}
use Rattle.cyclo_core.specs.Convolution.{row_term, weighed, AreUpTo}
use Rattle.cyclo_core.specs.Sums.{int_sum}
use Rattle.cyclo_core.proofs.small.add_row.Given as goal

abbrev pub invariant-loop-b : goal.invariant-loop-b
invariant-loop-b l = record {
  value : (r : Sequence) → weighed l.c r ≡ weighed l.initial.c r +ℤ int_sum l.b (row_term (at l.x l.a) (at l.y) r l.a);
  done : AreUpTo ((l.a + 1) * 2 ^ 52) l.c;
  ahead : (k : ℕ) → l.a + l.b ≤ k → unsigned_abs (at l.c k) ≤ l.a * 2 ^ 52;
  past : (k : ℕ) → l.a + l.b ≤ k → at l.c k ≡ at l.initial.c k;
  len : length l.c ≡ 32;
}
