use Rattle.std.proofs.Common.{ap}
use Rattle.std.proofs.lemmas.Slice.Eq.{slice_eq-Decides}
use Rattle.std.proofs.lemmas.Bool.Decides.{Decides-int_eq}
use Rattle.cyclo_core.specs.Ratio.{Ratio}
use Rattle.cyclo_core.proofs.NumberLemmas.{same_ratios, holds}
use Rattle.cyclo_core.proofs.number.CycloStarRing.same.Goals as goal

pub returns-then-eq-clause-value : goal.returns-then-eq-clause-value
returns-then-eq-clause-value c =
    let lists = slice_eq-Decides Decides-int_eq c.x.inside.numerators c.y.inside.numerators c.eq.result c.eq.ensures in
    rw (← c.x.view_is, ← c.y.view_is) (same_ratios _ _ _ _ (lists.0 c.if-eq.true))

pub returns-else-eq-clause-value : goal.returns-else-eq-clause-value
returns-else-eq-clause-value c =
    let lists = slice_eq-Decides Decides-int_eq c.x.inside.numerators c.y.inside.numerators c.eq.result c.eq.ensures in
    let no = c.if-eq.false in
    rw (← c.x.view_is, ← c.y.view_is) (λ h. cc, λ e. lists.1 (ap (λ (v : Ratio). v.numerators) e))

pub returns-then-eq-clause-left_held : goal.returns-then-eq-clause-left_held
returns-then-eq-clause-left_held c = rw (← c.x.view_is) (holds c.x.inside.numerators c.x.inside.denominator c.x.invariant)

pub returns-then-eq-clause-right_held : goal.returns-then-eq-clause-right_held
returns-then-eq-clause-right_held c = rw (← c.y.view_is) (holds c.y.inside.numerators c.y.inside.denominator c.y.invariant)

pub returns-else-eq-clause-left_held : goal.returns-else-eq-clause-left_held
returns-else-eq-clause-left_held c = rw (← c.x.view_is) (holds c.x.inside.numerators c.x.inside.denominator c.x.invariant)

pub returns-else-eq-clause-right_held : goal.returns-else-eq-clause-right_held
returns-else-eq-clause-right_held c = rw (← c.y.view_is) (holds c.y.inside.numerators c.y.inside.denominator c.y.invariant)
