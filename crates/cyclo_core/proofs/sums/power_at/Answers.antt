use Rattle.std.proofs.Common.{arith}
use Rattle.std.proofs.lemmas.Nat.{mod_below}
use Rattle.poly_core.proofs.RhoLemmas.{degree_small}
use Rattle.cyclo_core.proofs.sums.power_at.Goals as goal

pub overflow_cast-rest : goal.overflow_cast-rest
overflow_cast-rest c = omega (arith, mod_below c.args.k c.order_of-order.result c.order_of-order.ensures.positive, c.order_of-order.ensures.small)

pub overflow_cast-j : goal.overflow_cast-j
overflow_cast-j c = omega (arith, degree_small c.args.powers.now, c.requires)

pub rho-requires-clause-power : goal.rho-requires-clause-power
rho-requires-clause-power c = omega (arith, mod_below c.args.k c.order_of-order.result c.order_of-order.ensures.positive, c.order_of-order.ensures.root)
