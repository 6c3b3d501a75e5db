use Rattle.std.proofs.Common.{◌≡◌, sym, subst, refl}
use Rattle.std.specs.Prelude.{IsTrue}
use Rattle.cyclo_core.specs.Ratio.{Ratio, ring_at}
use Rattle.cyclo_core.specs.RingAt.{ring_at_laws}
use Rattle.cyclo_core.proofs.NumberLemmas.{holds, not_both, product_value, product_fits_is}
use Rattle.cyclo_core.proofs.number.CycloStarRing.mul.Goals as goal

value_is : (c : goal.After-cancelled) → c.cancelled.result ≡ (ring_at c.args.self.now).product c.args.x.now c.args.y.now
value_is c =
    let e = c.in_ok-numerators.ensures in
    let value = e.value in
    let rest = e.rest in
    rw (← c.self.view_is, ← c.x.view_is, ← c.y.view_is)
    (product_value c.self.inside.powers _ _ c.cancelled.result c.in_ok-numerators.numerators c.in_ok-denominator.denominator c.x.invariant.positive c.y.invariant.positive c.cancelled.ensures.value value rest c.in_ok-denominator.ensures.value)

pub returns-in_err-numerators-clause-fits : goal.returns-in_err-numerators-clause-fits
returns-in_err-numerators-clause-fits c =
    let code = c.in_err-numerators.ensures.fits in
    rw (← c.self.view_is, ← c.x.view_is, ← c.y.view_is)
    (λ h. let fit = (product_fits_is _ _ _).0 h in let bad = code.0 fit.over in cc, λ e. absurd (not_both _ e c.from_residual.ensures.0))

pub returns-clause-fits : goal.returns-clause-fits
returns-clause-fits c =
    rw (← c.self.view_is, ← c.x.view_is, ← c.y.view_is)
    (λ h. refl, λ e. (product_fits_is _ _ _).1 (record { over = c.in_ok-numerators.ensures.fits.1 refl; under = c.in_ok-denominator.ensures.fits.1 refl }))

pub returns-clause-value : goal.returns-clause-value
returns-clause-value c = value_is c

pub returns-clause-member : goal.returns-clause-member
returns-clause-member c =
    let laws = ring_at_laws c.args.self.now in
    subst (λ (z : Ratio). IsTrue ((ring_at c.args.self.now).member z)) (sym (value_is c)) (laws.product_is c.args.x.now c.args.y.now)

pub returns-in_err-numerators-clause-left_held : goal.returns-in_err-numerators-clause-left_held
returns-in_err-numerators-clause-left_held c = rw (← c.x.view_is) (holds c.x.inside.numerators c.x.inside.denominator c.x.invariant)

pub returns-in_err-numerators-clause-right_held : goal.returns-in_err-numerators-clause-right_held
returns-in_err-numerators-clause-right_held c = rw (← c.y.view_is) (holds c.y.inside.numerators c.y.inside.denominator c.y.invariant)

pub returns-in_err-denominator-clause-left_held : goal.returns-in_err-denominator-clause-left_held
returns-in_err-denominator-clause-left_held c = rw (← c.x.view_is) (holds c.x.inside.numerators c.x.inside.denominator c.x.invariant)

pub returns-in_err-denominator-clause-right_held : goal.returns-in_err-denominator-clause-right_held
returns-in_err-denominator-clause-right_held c = rw (← c.y.view_is) (holds c.y.inside.numerators c.y.inside.denominator c.y.invariant)

pub returns-clause-left_held : goal.returns-clause-left_held
returns-clause-left_held c = rw (← c.x.view_is) (holds c.x.inside.numerators c.x.inside.denominator c.x.invariant)

pub returns-clause-right_held : goal.returns-clause-right_held
returns-clause-right_held c = rw (← c.y.view_is) (holds c.y.inside.numerators c.y.inside.denominator c.y.invariant)
