use Rattle.std.proofs.Common.{arith}
use Rattle.poly_core.proofs.RhoLemmas.{degree_small, degree_within}
use Rattle.cyclo_core.proofs.sums.places.Goals as goal

pub returns-clause-few : goal.returns-clause-few
returns-clause-few c = omega (arith, degree_small c.args.powers.now, c.phi-phi.ensures.degree, c.from.ensures)

pub returns-clause-within : goal.returns-clause-within
returns-clause-within c = omega (arith, degree_within c.args.powers.now, c.phi-phi.ensures.degree, c.from.ensures)
