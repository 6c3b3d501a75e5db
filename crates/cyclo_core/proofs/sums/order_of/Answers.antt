use Rattle.std.proofs.Common.{arith}
use Rattle.poly_core.proofs.RhoLemmas.{order_positive, accepted_small}
use Rattle.cyclo_core.proofs.sums.order_of.Goals as goal

pub returns-clause-positive : goal.returns-clause-positive
returns-clause-positive c = omega (arith, order_positive c.args.powers.now, c.root-root.ensures.order, c.root-root.ensures.value, c.from.ensures)

pub returns-clause-small : goal.returns-clause-small
returns-clause-small c = omega (arith, accepted_small c.args.powers.now c.root-root.ensures.accepted, c.root-root.ensures.value, c.from.ensures)
