use Rattle.std.proofs.Common.{◌≡◌, ℕ, ◌<◌, ◌≤◌, ◌^◌, ◌-◌, unsigned_abs, length}
use Rattle.std.specs.Prelude.{pos}
use Rattle.poly_core.specs.Table.{at}
use Rattle.cyclo_core.specs.Ratio.{product_at, product_size}
use Rattle.cyclo_core.proofs.sums.plain_product.Given as goal

abbrev pub invariant-loop-j : goal.invariant-loop-j
invariant-loop-j l = record {
  value : (k : ℕ) → k < l.j → at l.out k ≡ product_at l.powers (at l.x) (at l.y) k;
  fits : (k : ℕ) → k < l.j → product_size l.powers (at l.x) (at l.y) k ≤ 2 ^ 127 - 1;
  rest : (k : ℕ) → l.j ≤ k → at l.out k ≡ pos 0;
  len : length l.out ≡ 16;
  small : (k : ℕ) → unsigned_abs (at l.out k) ≤ 2 ^ 127 - 1;
}
