use Rattle.std.proofs.Common.{sym, ◌∙◌}
use Rattle.poly_core.proofs.RhoLemmas.{totient_is}
use Rattle.poly_core.proofs.power.PowerTable.phi.Goals as goal

pub returns-clause-value : goal.returns-clause-value
returns-clause-value c = rw (← c.self.view_is) (c.self.invariant.1 ∙ sym (totient_is _ c.self.invariant.0))
