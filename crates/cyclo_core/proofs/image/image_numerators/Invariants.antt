use Rattle.std.proofs.Common.{◌≡◌, ℕ, ◌<◌, ◌≤◌, ◌^◌, ◌-◌, unsigned_abs, length}
use Rattle.std.specs.Prelude.{pos}
use Rattle.poly_core.specs.Table.{at}
use Rattle.cyclo_core.specs.Image.{image_over, image_size}
use Rattle.cyclo_core.proofs.image.image_numerators.Given as goal

abbrev pub invariant-loop-j : goal.invariant-loop-j
invariant-loop-j l = record {
  value : (k : ℕ) → k < l.j → at l.out k ≡ image_over l.powers l.k (at l.x) k;
  fits : (k : ℕ) → k < l.j → image_size l.powers l.k (at l.x) k ≤ 2 ^ 127 - 1;
  rest : (k : ℕ) → l.j ≤ k → at l.out k ≡ pos 0;
  len : length l.out ≡ 16;
  small : (k : ℕ) → unsigned_abs (at l.out k) ≤ 2 ^ 127 - 1;
}
