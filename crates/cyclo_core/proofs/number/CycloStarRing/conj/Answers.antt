use Rattle.std.proofs.Common.{◌≡◌, sym, subst, refl}
use Rattle.std.specs.Prelude.{IsTrue}
use Rattle.cyclo_core.specs.Ratio.{Ratio, ring_at}
use Rattle.cyclo_core.specs.RingAt.{ring_at_laws}
use Rattle.cyclo_core.proofs.NumberLemmas.{holds, not_both, conjugate_value, conjugate_fits_is}
use Rattle.cyclo_core.proofs.number.CycloStarRing.conj.Goals as goal

value_is : (c : goal.After-cancelled) → c.cancelled.result ≡ (ring_at c.args.self.now).conjugate c.args.x.now
value_is c =
    let e = c.in_ok-numerators.ensures in
    rw (← c.self.view_is, ← c.x.view_is)
    (conjugate_value c.self.inside.powers _ c.cancelled.result c.in_ok-numerators.numerators c.x.invariant.positive c.cancelled.ensures.value e.value e.rest)

pub returns-in_err-numerators-clause-fits : goal.returns-in_err-numerators-clause-fits
returns-in_err-numerators-clause-fits c =
    let code = c.in_err-numerators.ensures.fits in
    rw (← c.self.view_is, ← c.x.view_is)
    (λ h. let bad = code.0 ((conjugate_fits_is _ (record { numerators = c.x.inside.numerators; denominator = c.x.inside.denominator })).0 h) in cc, λ e. absurd (not_both _ e c.from_residual.ensures.0))

pub returns-clause-fits : goal.returns-clause-fits
returns-clause-fits c =
    rw (← c.self.view_is, ← c.x.view_is) (λ h. refl, λ e. (conjugate_fits_is _ (record { numerators = c.x.inside.numerators; denominator = c.x.inside.denominator })).1 (c.in_ok-numerators.ensures.fits.1 refl))

pub returns-clause-value : goal.returns-clause-value
returns-clause-value c = value_is c

pub returns-clause-member : goal.returns-clause-member
returns-clause-member c =
    let laws = ring_at_laws c.args.self.now in
    subst (λ (z : Ratio). IsTrue ((ring_at c.args.self.now).member z)) (sym (value_is c)) (laws.conjugate_is c.args.x.now)

pub returns-in_err-numerators-clause-known : goal.returns-in_err-numerators-clause-known
returns-in_err-numerators-clause-known c = rw (← c.x.view_is) (holds c.x.inside.numerators c.x.inside.denominator c.x.invariant)

pub returns-clause-known : goal.returns-clause-known
returns-clause-known c = rw (← c.x.view_is) (holds c.x.inside.numerators c.x.inside.denominator c.x.invariant)
