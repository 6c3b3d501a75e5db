-- On combs a state has no shape, and every gap is a pair.
use Rattle.std.proofs.Common.{◌≡◌, ℕ, ◌<◌, true, refl, arith}
use Rattle.std.specs.Prelude.{◌&&◌, nat_lt}
use Rattle.std.proofs.lemmas.Bool.Decides.{nat_tests}
use Rattle.symbol_table.specs.Symbols.{Symbols}
use Rattle.word_runs.specs.Told.{AreShapes}
use Rattle.word_runs.proofs.EachLemmas.{all_const}
use Rattle.comb_run.specs.Evaluated.{comb_told}

both_yes : (k n : ℕ) → 0 < k → k < n → (nat_lt 0 k && nat_lt k n) ≡ true
both_yes k n low high = rw (first, second) refl
  where
    first : nat_lt 0 k ≡ true
    first = grind (arith, nat_tests)

    second : nat_lt k n ≡ true
    second = grind (arith, nat_tests)

pub comb_shapes : {E : Type 0} (c : Symbols E) (n : ℕ) → AreShapes (comb_told c n)
comb_shapes c n = record {
  steps = λ step s s' h. refl;
  parts = λ k s ps h. all_const (λ part. tt ≡ tt) ps (λ part. refl);
  gaps = λ k t gap. tt;
  pair = λ k t gap. both_yes k n gap.low gap.high;
}
