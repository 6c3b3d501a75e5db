use Rattle.std.proofs.Common.{◌≡◌, sym, subst, refl}
use Rattle.std.specs.Prelude.{IsTrue}
use Rattle.poly_core.specs.Companion.{IsBelow}
use Rattle.cyclo_core.specs.Image.{image_of}
use Rattle.cyclo_core.specs.Ratio.{Ratio, ring_at}
use Rattle.cyclo_core.proofs.NumberLemmas.{holds, not_both, image_value, image_fits_is}
use Rattle.cyclo_core.specs.RingAt.{member_of_reduced}
use Rattle.cyclo_core.proofs.number.Cyclo.image.Goals as goal

value_is : (c : goal.After-cancelled) → c.cancelled.result ≡ image_of c.args.self.now c.args.k c.args.x.now
value_is c =
    let e = c.in_ok-numerators.ensures in
    rw (← c.self.view_is, ← c.x.view_is)
    (image_value c.self.inside.powers c.args.k _ c.cancelled.result c.in_ok-numerators.numerators c.x.invariant.positive c.cancelled.ensures.value e.value e.rest)

pub returns-in_err-numerators-clause-fits : goal.returns-in_err-numerators-clause-fits
returns-in_err-numerators-clause-fits c =
    let code = c.in_err-numerators.ensures.fits in
    rw (← c.self.view_is, ← c.x.view_is)
    (λ h. let bad = code.0 ((image_fits_is _ c.args.k (record { numerators = c.x.inside.numerators; denominator = c.x.inside.denominator })).0 h) in cc, λ e. absurd (not_both _ e c.from_residual.ensures.0))

pub returns-clause-fits : goal.returns-clause-fits
returns-clause-fits c =
    rw (← c.self.view_is, ← c.x.view_is) (λ h. refl, λ e. (image_fits_is _ c.args.k (record { numerators = c.x.inside.numerators; denominator = c.x.inside.denominator })).1 (c.in_ok-numerators.ensures.fits.1 refl))

pub returns-clause-value : goal.returns-clause-value
returns-clause-value c = value_is c

pub returns-clause-member : goal.returns-clause-member
returns-clause-member c =
    let e = c.in_ok-numerators.ensures in
    let below : IsBelow _ _ = record { past = e.rest } in
    rw (← c.self.view_is) (subst (λ (z : Ratio). IsTrue ((ring_at c.self.inside.powers).member z)) (sym c.cancelled.ensures.value) (member_of_reduced c.self.inside.powers _ c.x.inside.denominator below c.x.invariant.positive))

pub returns-in_err-numerators-clause-known : goal.returns-in_err-numerators-clause-known
returns-in_err-numerators-clause-known c = rw (← c.x.view_is) (holds c.x.inside.numerators c.x.inside.denominator c.x.invariant)

pub returns-clause-known : goal.returns-clause-known
returns-clause-known c = rw (← c.x.view_is) (holds c.x.inside.numerators c.x.inside.denominator c.x.invariant)
