use Rattle.std.proofs.Common.{◌≡◌, ◌∙◌, sym, ap, arith}
use Rattle.fusion_rules.specs.Fusion.{Fusion}
use Rattle.std.proofs.lemmas.Result.{err_from_is_err_and}
use Rattle.symbol_table.specs.Category.{draft_symbols}
use Rattle.kept_values.specs.Kept.{value_of}
use Rattle.kept_values.proofs.ToldLemmas.{one_step, no_step, grows_on}
use Rattle.shape_check.specs.Shapes.{right_at, step_at}
use Rattle.shape_check.proofs.sides.right.Goals as goal

pub returns-in_err-sum-clause-value : goal.returns-in_err-sum-clause-value
returns-in_err-sum-clause-value g c =
    let draft = c.args.table.now.draft in
    let ring = g.R.StarRing.ring draft.ring in
    let count : c.count-count.result ≡ draft.rules.count = c.count-count.ensures.count ∙ ap (λ (r : Fusion). r.count) c.rules.ensures in
    let symbols = draft_symbols ring g.R.StarRing.held draft in
    let told = rw c.loop-label.invariant.draft at c.in_err-sum.ensures.value in
    let p = err_from_is_err_and c.from_residual.result c.from_residual.ensures.1 in
    rw (p.1, p.2)
    (no_step ring c.add_term.new.table.values (step_at symbols c.args.shape c.args.at.now) c.loop-label.label draft.rules.count (value_of ring c.loop-label.table.values c.loop-label.sum) _ (right_at symbols c.args.shape c.args.at.now)
    (omega arith) c.loop-label.invariant.sum told)

pub loop-label-preserved : goal.loop-label-preserved
loop-label-preserved g c =
    let draft = c.args.table.now.draft in
    let ring = g.R.StarRing.ring draft.ring in
    let count : c.count-count.result ≡ draft.rules.count = c.count-count.ensures.count ∙ ap (λ (r : Fusion). r.count) c.rules.ensures in
    let symbols = draft_symbols ring g.R.StarRing.held draft in
    let told = rw c.loop-label.invariant.draft at c.in_ok-sum.ensures.value in
    record {
      draft = c.in_ok-sum.ensures.draft ∙ c.loop-label.invariant.draft;
      grows = grows_on _ _ _ c.loop-label.invariant.grows c.in_ok-sum.ensures.grows;
      kept = told.0;
      sum = sym (one_step ring c.add_term.new.table.values (step_at symbols c.args.shape c.args.at.now) c.loop-label.label draft.rules.count c.in_ok-sum.sum (value_of ring c.loop-label.table.values c.loop-label.sum) (omega arith) told) ∙ c.loop-label.invariant.sum;
    }
