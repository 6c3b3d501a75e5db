use Rattle.std.proofs.Common.{◌∙◌}
use Rattle.comb_run.proofs.KeptLemmas.{kept_is}
use Rattle.comb_run.proofs.kernels.Kernels.get.Goals as goal

pub returns : goal.returns
returns g c = rw (← c.self.view_is) (c.get.ensures.value ∙ kept_is c.self.inside.kept.entries c.args.labels.now.items)
