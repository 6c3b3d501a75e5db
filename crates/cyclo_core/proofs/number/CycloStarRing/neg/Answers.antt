use Rattle.std.proofs.Common.{◌≡◌, sym, subst}
use Rattle.std.specs.Prelude.{IsTrue}
use Rattle.cyclo_core.specs.Ratio.{Ratio, ring_at}
use Rattle.cyclo_core.specs.RingAt.{ring_at_laws}
use Rattle.cyclo_core.proofs.NumberLemmas.{holds, negative_value}
use Rattle.cyclo_core.proofs.number.CycloStarRing.neg.Goals as goal

value_is : (c : goal.After-cancelled) → c.cancelled.result ≡ (ring_at c.args.self.now).negative c.args.x.now
value_is c =
    let member = rw (← c.x.view_is) at c.requires.member in
    rw (← c.x.view_is) (negative_value c.args.self.now _ c.cancelled.result c.negated.result c.x.invariant.positive member c.cancelled.ensures.value c.negated.ensures.value)

pub returns-clause-value : goal.returns-clause-value
returns-clause-value c = value_is c

pub returns-clause-member : goal.returns-clause-member
returns-clause-member c =
    let laws = ring_at_laws c.args.self.now in
    subst (λ (z : Ratio). IsTrue ((ring_at c.args.self.now).member z)) (sym (value_is c)) (laws.negative_is c.args.x.now)

pub returns-clause-known : goal.returns-clause-known
returns-clause-known c = rw (← c.x.view_is) (holds c.x.inside.numerators c.x.inside.denominator c.x.invariant)
