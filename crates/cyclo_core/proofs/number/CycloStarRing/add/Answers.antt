use Rattle.std.proofs.Common.{◌≡◌, ℕ, ◌*◌, ◌<◌, sym, ap, ap₂, ◌∙◌, subst, refl, arith}
use Rattle.std.specs.Prelude.{IsTrue, ◌*ℤ◌, ◌+ℤ◌, pos}
use Rattle.std.proofs.Math.Nat.{div-le_self}
use Rattle.poly_core.specs.Table.{at}
use Rattle.cyclo_core.specs.Ratio.{Ratio, ring_at}
use Rattle.cyclo_core.specs.RingAt.{ring_at_laws}
use Rattle.cyclo_core.proofs.NumberLemmas.{holds, not_both, gcd_positive, sum_positive, sum_value, sum_fits_is, by_gcd}
use Rattle.cyclo_core.proofs.number.CycloStarRing.add.Goals as goal

pub divided-left-requires : goal.divided-left-requires
divided-left-requires c = subst (λ k. 0 < k) (sym c.gcd-divisor.ensures) (gcd_positive c.x.inside.denominator c.y.inside.denominator c.x.invariant.positive)

pub divided-right-requires : goal.divided-right-requires
divided-right-requires c = subst (λ k. 0 < k) (sym c.gcd-divisor.ensures) (gcd_positive c.x.inside.denominator c.y.inside.denominator c.x.invariant.positive)

pub sum-requires-clause-left : goal.sum-requires-clause-left
sum-requires-clause-left c = omega (arith, c.divided-left.ensures, div-le_self c.y.inside.denominator c.gcd-divisor.result, c.y.invariant.bounded)

pub sum-requires-clause-right : goal.sum-requires-clause-right
sum-requires-clause-right c = omega (arith, c.divided-right.ensures, div-le_self c.x.inside.denominator c.gcd-divisor.result, c.x.invariant.bounded)

pub cancelled-requires-clause-positive : goal.cancelled-requires-clause-positive
cancelled-requires-clause-positive c =
    let whole = c.in_ok-denominator.ensures.value ∙ ap (λ k. c.x.inside.denominator * k) (by_gcd _ _ _ _ c.divided-left.ensures c.gcd-divisor.ensures) in
    subst (λ k. 0 < k) (sym whole) (sum_positive c.x.inside.denominator c.y.inside.denominator c.x.invariant.positive c.y.invariant.positive)

value_is : (c : goal.After-cancelled) → c.cancelled.result ≡ (ring_at c.args.self.now).sum c.args.x.now c.args.y.now
value_is c =
    let e = c.in_ok-numerators.ensures in
    let value = e.value in
    let d : ℕ = c.x.inside.denominator in
    let d' : ℕ = c.y.inside.denominator in
    let whole = c.in_ok-denominator.ensures.value ∙ ap (λ k. d * k) (by_gcd _ _ _ _ c.divided-left.ensures c.gcd-divisor.ensures) in
    let some = subst (λ k. 0 < k) (sym whole) (sum_positive d d' c.x.invariant.positive c.y.invariant.positive) in
    rw (← c.self.view_is, ← c.x.view_is, ← c.y.view_is)
    (sum_value c.self.inside.powers _ _ c.cancelled.result c.in_ok-numerators.numerators c.in_ok-denominator.denominator c.x.invariant.positive c.y.invariant.positive e.full some c.cancelled.ensures.value
    (λ j lt. value j lt ∙ ap₂ (λ (u v : ℕ). at c.x.inside.numerators j *ℤ pos u +ℤ at c.y.inside.numerators j *ℤ pos v) (by_gcd _ _ _ _ c.divided-left.ensures c.gcd-divisor.ensures) (by_gcd _ _ _ _ c.divided-right.ensures c.gcd-divisor.ensures)) e.rest whole)

pub returns-in_err-numerators-clause-fits : goal.returns-in_err-numerators-clause-fits
returns-in_err-numerators-clause-fits c =
    let code = c.in_err-numerators.ensures.fits in
    rw (← c.self.view_is, ← c.x.view_is, ← c.y.view_is)
    (λ h. let fit = (sum_fits_is _ _ _ c.divided-left.result c.divided-right.result (by_gcd _ _ _ _ c.divided-left.ensures c.gcd-divisor.ensures) (by_gcd _ _ _ _ c.divided-right.ensures c.gcd-divisor.ensures)).0 h in let bad = code.0 fit.over in cc, λ e. absurd (not_both _ e c.from_residual.ensures.0))

pub returns-in_err-denominator-clause-fits : goal.returns-in_err-denominator-clause-fits
returns-in_err-denominator-clause-fits c =
    let code = c.in_err-denominator.ensures.fits in
    rw (← c.self.view_is, ← c.x.view_is, ← c.y.view_is)
    (λ h. let fit = (sum_fits_is c.self.inside.powers _ _ c.divided-left.result c.divided-right.result (by_gcd _ _ _ _ c.divided-left.ensures c.gcd-divisor.ensures) (by_gcd _ _ _ _ c.divided-right.ensures c.gcd-divisor.ensures)).0 h in let bad = code.0 fit.under in cc, λ e. absurd (not_both _ e c.from_residual-in_err-denominator.ensures.0))

pub returns-clause-fits : goal.returns-clause-fits
returns-clause-fits c =
    rw (← c.self.view_is, ← c.x.view_is, ← c.y.view_is)
    (λ h. refl, λ e. (sum_fits_is _ _ _ c.divided-left.result c.divided-right.result (by_gcd _ _ _ _ c.divided-left.ensures c.gcd-divisor.ensures) (by_gcd _ _ _ _ c.divided-right.ensures c.gcd-divisor.ensures)).1 (record { over = c.in_ok-numerators.ensures.fits.1 refl; under = c.in_ok-denominator.ensures.fits.1 refl }))

pub returns-clause-value : goal.returns-clause-value
returns-clause-value c = value_is c

pub returns-clause-member : goal.returns-clause-member
returns-clause-member c =
    let laws = ring_at_laws c.args.self.now in
    subst (λ (z : Ratio). IsTrue ((ring_at c.args.self.now).member z)) (sym (value_is c)) (laws.sum_is c.args.x.now c.args.y.now)

pub returns-in_err-numerators-clause-left_held : goal.returns-in_err-numerators-clause-left_held
returns-in_err-numerators-clause-left_held c = rw (← c.x.view_is) (holds c.x.inside.numerators c.x.inside.denominator c.x.invariant)

pub returns-in_err-numerators-clause-right_held : goal.returns-in_err-numerators-clause-right_held
returns-in_err-numerators-clause-right_held c = rw (← c.y.view_is) (holds c.y.inside.numerators c.y.inside.denominator c.y.invariant)

pub returns-in_err-denominator-clause-left_held : goal.returns-in_err-denominator-clause-left_held
returns-in_err-denominator-clause-left_held c = rw (← c.x.view_is) (holds c.x.inside.numerators c.x.inside.denominator c.x.invariant)

pub returns-in_err-denominator-clause-right_held : goal.returns-in_err-denominator-clause-right_held
returns-in_err-denominator-clause-right_held c = rw (← c.y.view_is) (holds c.y.inside.numerators c.y.inside.denominator c.y.invariant)

pub returns-clause-left_held : goal.returns-clause-left_held
returns-clause-left_held c = rw (← c.x.view_is) (holds c.x.inside.numerators c.x.inside.denominator c.x.invariant)

pub returns-clause-right_held : goal.returns-clause-right_held
returns-clause-right_held c = rw (← c.y.view_is) (holds c.y.inside.numerators c.y.inside.denominator c.y.invariant)
