use Rattle.cyclo_core.proofs.NumberLemmas.{holds}
use Rattle.cyclo_core.proofs.number.CycloStarRing.copy.Goals as goal

pub returns-clause-holds : goal.returns-clause-holds
returns-clause-holds c = holds c.x.inside.numerators c.x.inside.denominator c.x.invariant
