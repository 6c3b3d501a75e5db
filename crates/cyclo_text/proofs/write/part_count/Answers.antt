use Rattle.std.proofs.Common.{◌≢◌, ◌-◌, ap, ◌∙◌, inl, inr, arith}
use Rattle.std.specs.Prelude.{pos}
use mir.Val.{of_z}
use mir.Syntax.{w128}
use Rattle.poly_core.specs.Table.{at}
use Rattle.cyclo_text.proofs.TrimLemmas.{trimmed_count}
use Rattle.cyclo_text.proofs.write.part_count.Goals as goal

pub returns-then-numerator-ne0-clause-value : goal.returns-then-numerator-ne0-clause-value
returns-then-numerator-ne0-clause-value c =
    let inv = c.loop-count.invariant in
    let k = c.loop-count.count in
    let ne : at c.args.number.now.numerators (k - 1) ≢ pos 0 = λ e. c.if-numerator-ne0.true (ap (of_z w128) (c.numerator.ensures.value ∙ e)) in
    trimmed_count c.args.number.now.numerators k c.requires inv.some inv.few inv.past (inr ne)

pub returns-clause-value : goal.returns-clause-value
returns-clause-value c =
    let inv = c.loop-count.invariant in
    trimmed_count c.args.number.now.numerators c.loop-count.count c.requires inv.some inv.few inv.past (inl (omega (arith, inv.some, c.loop-count-test.false)))
