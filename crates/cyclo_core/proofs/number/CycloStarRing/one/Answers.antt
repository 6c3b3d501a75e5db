use Rattle.cyclo_core.specs.RingAt.{ring_at_laws}
use Rattle.cyclo_core.proofs.NumberLemmas.{one_number, holds}
use Rattle.cyclo_core.proofs.number.CycloStarRing.one.Goals as goal

pub invariant_of-result : goal.invariant_of-result
invariant_of-result c = one_number

pub returns-clause-member : goal.returns-clause-member
returns-clause-member c = let laws = ring_at_laws c.args.self.now in laws.one_is

pub returns-clause-holds : goal.returns-clause-holds
returns-clause-holds c = holds _ _ one_number
