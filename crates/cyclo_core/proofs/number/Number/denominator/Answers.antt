use Rattle.cyclo_core.proofs.NumberLemmas.{holds}
use Rattle.cyclo_core.proofs.number.Number.denominator.Goals as goal

pub returns-clause-full : goal.returns-clause-full
returns-clause-full c = rw (← c.self.view_is) c.self.told

pub returns-clause-held : goal.returns-clause-held
returns-clause-held c = rw (← c.self.view_is) (holds c.self.inside.numerators c.self.inside.denominator c.self.invariant)
