use Rattle.std.proofs.Common.{sym, ap, ◌∙◌, Some}
use Rattle.symbol_table.specs.Category.{symbols}
use Rattle.comb_run.specs.Kept.{given_at}
use Rattle.comb_run.specs.Operations.{kernel_at}
use Rattle.comb_run.proofs.KeptLemmas.{kept_more}
use Rattle.comb_run.proofs.kernels.Kernels.evaluate.Goals as goal

pub returns-clause-kept : goal.returns-clause-kept
returns-clause-kept g c =
    let s = symbols g.R.StarRing c.args.category.now in
    kept_more s.ring (kernel_at s c.args.operator) c.put.new.self c.args.self.now c.args.labels.items c.copy.result c.in_ok-put.ensures.ok
    (ap (given_at (kernel_at s c.args.operator)) c.requires.labels ∙ (c.in_ok-value.ensures.value ∙ ap Some (sym c.copy.ensures.value)))
    (ap s.ring.member c.copy.ensures.value ∙ c.in_ok-value.ensures.member) c.requires.kept
