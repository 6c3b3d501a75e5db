use Rattle.std.proofs.Common.{rules, ◌∙◌, sym, refl, arith}
use Rattle.std.specs.Prelude.{pos, replicate}
use Rattle.std.proofs.Math.Nat.{le_refl}
use Rattle.poly_core.specs.Table.{at}
use Rattle.cyclo_core.specs.Convolution.{row_sum}
use Rattle.cyclo_core.proofs.SumLemmas.{int_sum-none}
use Rattle.cyclo_core.proofs.SmallLemmas.{weighed-none, zeros_at, same_bound, next_sum}
use Rattle.cyclo_core.proofs.small.convolved.Goals as goal

pub loop-a-init : goal.loop-a-init
loop-a-init c = record {
  value = λ r. weighed-none (replicate 32 (pos 0)) r zeros_at ∙ sym (int_sum-none (row_sum (at c.args.x.now) (at c.args.y.now) r));
  small = λ k. same_bound (at (replicate 32 (pos 0)) k) (pos 0) 0 (zeros_at k) (le_refl 0);
  past = λ k le. zeros_at k;
  len = refl;
}

pub loop-a-preserved : goal.loop-a-preserved
loop-a-preserved c = record {
  value = λ r. next_sum _ _ _ (row_sum (at c.args.x.now) (at c.args.y.now) r) c.loop-a.a (c.add_row.ensures.value r) (c.loop-a.invariant.value r) refl;
  small = c.add_row.ensures.small;
  past = λ k le. c.add_row.ensures.past k (omega (arith, le)) ∙ c.loop-a.invariant.past k le;
  len = search rules;
}
