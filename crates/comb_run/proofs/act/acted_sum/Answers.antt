use Rattle.std.proofs.Common.{◌<◌, ◌∙◌, sym, ap, Err, arith}
use Rattle.std.proofs.lemmas.Result.{err_from_is_err_and}
use Rattle.fusion_rules.specs.Fusion.{Fusion}
use Rattle.ring_laws.proofs.StatedLemmas.{steps_one, steps_none}
use Rattle.symbol_table.specs.Category.{symbols}
use Rattle.word_runs.specs.declared.fault.StepFault.TheVariants.{TooLarge}
use Rattle.comb_run.specs.Entries.{vector_of}
use Rattle.comb_run.specs.Evaluated.{acted_step}
use Rattle.comb_run.specs.Operations.{kernel_at}
use Rattle.word_runs.proofs.EachLemmas.{err_same}
use Rattle.comb_run.proofs.act.acted_sum.Goals as goal

pub returns-in_err-sum-clause-too_large : goal.returns-in_err-sum-clause-too_large
returns-in_err-sum-clause-too_large g c e =
    let s = symbols g.R.StarRing c.args.category.now in
    let step = acted_step s c.args.action.now.strands.now c.args.action.now.gap (kernel_at s c.args.action.now.operator) (vector_of s.ring c.args.action.now.strands.now c.args.vector.now) c.args.path.now.items in
    let p = err_from_is_err_and c.from_residual.result c.from_residual.ensures.1 in
    let low : c.loop-t.t < c.args.category.now.rules.count = omega (arith, c.count-t-end.ensures.count, ap (λ (r : Fusion). r.count) c.rules.ensures) in
    let stops = c.in_err-sum.ensures.too_large (ap Err (err_same c.from_residual.result c.in_err-sum.field-0.0 TooLarge (p.1 ∙ ap Err p.2) e)) in
    sym c.loop-t.invariant.sum ∙ steps_none step c.loop-t.t s.count c.loop-t.sum low stops

pub loop-t-preserved : goal.loop-t-preserved
loop-t-preserved g c =
    let s = symbols g.R.StarRing c.args.category.now in
    let step = acted_step s c.args.action.now.strands.now c.args.action.now.gap (kernel_at s c.args.action.now.operator) (vector_of s.ring c.args.action.now.strands.now c.args.vector.now) c.args.path.now.items in
    let low : c.loop-t.t < c.args.category.now.rules.count = omega (arith, c.count-t-end.ensures.count, ap (λ (r : Fusion). r.count) c.rules.ensures) in
    record {
      sum = sym (steps_one step c.loop-t.t s.count c.loop-t.sum c.in_ok-sum.sum low c.in_ok-sum.ensures.value) ∙ c.loop-t.invariant.sum;
      member = c.in_ok-sum.ensures.member;
      kept = c.in_ok-sum.ensures.kept;
    }
