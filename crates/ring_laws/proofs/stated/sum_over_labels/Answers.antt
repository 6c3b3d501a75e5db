use Rattle.std.proofs.Common.{sym, ◌∙◌}
use Rattle.ring_laws.proofs.StatedLemmas.{err_gives, steps_one, steps_none}
use Rattle.ring_laws.proofs.stated.sum_over_labels.Goals as goal

pub returns-in_err-sum-clause-value : goal.returns-in_err-sum-clause-value
returns-in_err-sum-clause-value g c = λ step is.
    let stops = is _ _ _ c.in_err-sum.ensures in
    err_gives _ _ c.from_residual.ensures.0 (sym (c.loop-t.invariant.sum step is) ∙ steps_none step c.loop-t.t c.args.count c.loop-t.sum c.loop-t-test.true stops)

pub loop-t-preserved : goal.loop-t-preserved
loop-t-preserved g c = record {
  sum = λ step is.
      let goes = is _ _ _ c.in_ok-sum.ensures in
      sym (steps_one step c.loop-t.t c.args.count c.loop-t.sum c.in_ok-sum.sum c.loop-t-test.true goes) ∙ c.loop-t.invariant.sum step is;
  member = c.requires.members _ _ _ c.in_ok-sum.ensures;
}
