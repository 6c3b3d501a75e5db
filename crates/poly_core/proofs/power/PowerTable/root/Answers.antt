use Rattle.poly_core.proofs.RhoLemmas.{order_is}
use Rattle.poly_core.proofs.power.PowerTable.root.Goals as goal

pub returns-clause-order : goal.returns-clause-order
returns-clause-order c = rw (← c.self.view_is) (order_is _ c.self.invariant.0)
