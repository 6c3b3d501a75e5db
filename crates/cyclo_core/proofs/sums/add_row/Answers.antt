use Rattle.std.proofs.Common.{◌≡◌, ◌*◌, ap, sym, ◌∙◌, arith, rules, refl}
use Rattle.std.specs.Prelude.{◌*ℤ◌, pos, unsigned_abs}
use Rattle.std.proofs.lemmas.Int.{ints, to_z-of_z}
use mir.Val.{SFits, to_z}
use mir.Syntax.{w128}
use Rattle.poly_core.specs.Table.{at}
use Rattle.cyclo_core.specs.Ratio.{product_size_term}
use Rattle.poly_core.specs.Rho.{degree}
use Rattle.cyclo_core.proofs.GivenLemmas.{bits_back}
use Rattle.cyclo_core.proofs.SumLemmas.{int_step, nat_step, nat_over, row_none, row_size_none}
use Rattle.cyclo_core.proofs.sums.add_row.Goals as goal

pub loop-b-preserved : goal.loop-b-preserved
loop-b-preserved c =
    let x = at c.args.x.now c.args.a in
    let y = at c.args.y.now c.loop-b.b in
    let fits : SFits w128 c.power_at.result = search rules in
    let value = simp to_z-of_z at c.in_ok-tally.ensures.value in
    let size = simp to_z-of_z at c.in_ok-tally.ensures.size in
    record {
      value = int_step _ _ _ _ _ c.loop-b.b c.loop-b.invariant.value value (ap (λ z. (x *ℤ y) *ℤ z) c.power_at.ensures);
      size = nat_step _ _ _ _ _ c.loop-b.b c.loop-b.invariant.size size (ap (λ z. (unsigned_abs x * unsigned_abs y) * unsigned_abs z) c.power_at.ensures);
    }

pub returns-in_err-tally-clause-fits : goal.returns-in_err-tally-clause-fits
returns-in_err-tally-clause-fits c =
    let x = at c.args.x.now c.args.a in
    let y = at c.args.y.now c.loop-b.b in
    let fits : SFits w128 c.power_at.result = search rules in
    let over = simp to_z-of_z at c.in_err-tally.ensures.fits in
    let not_less = nat_over _ _ _ _ (product_size_term c.args.powers.now (at c.args.x.now) (at c.args.y.now) c.args.j c.args.a) c.loop-b.b c.places-end.result (omega arith) c.loop-b.invariant.size
    (ap (λ z. (unsigned_abs x * unsigned_abs y) * unsigned_abs z) c.power_at.ensures) (λ h. let e = over.0 h in cc) in
    rw (← c.places-end.ensures.value) (λ h. absurd (not_less h), λ e. absurd (first_of (grind arith, search rules)))

pub returns-then-x-a-eq0-clause-value : goal.returns-then-x-a-eq0-clause-value
returns-then-x-a-eq0-clause-value c =
    let fits : SFits w128 (at c.args.x.now c.args.a) = search rules in
    let nothing : at c.args.x.now c.args.a ≡ pos 0 = sym (bits_back (at c.args.x.now c.args.a) fits) ∙ ap (to_z w128) c.if-x-a-eq0.true in
    omega (arith, ints, row_none (degree c.args.powers.now) c.args.powers.now (at c.args.x.now) (at c.args.y.now) c.args.j c.args.a nothing)

pub returns-then-x-a-eq0-clause-size : goal.returns-then-x-a-eq0-clause-size
returns-then-x-a-eq0-clause-size c =
    let fits : SFits w128 (at c.args.x.now c.args.a) = search rules in
    let nothing : at c.args.x.now c.args.a ≡ pos 0 = sym (bits_back (at c.args.x.now c.args.a) fits) ∙ ap (to_z w128) c.if-x-a-eq0.true in
    omega (arith, row_size_none (degree c.args.powers.now) c.args.powers.now (at c.args.x.now) (at c.args.y.now) c.args.j c.args.a nothing)

pub returns-then-x-a-eq0-clause-fits : goal.returns-then-x-a-eq0-clause-fits
returns-then-x-a-eq0-clause-fits c =
    let fits : SFits w128 (at c.args.x.now c.args.a) = search rules in
    let nothing : at c.args.x.now c.args.a ≡ pos 0 = sym (bits_back (at c.args.x.now c.args.a) fits) ∙ ap (to_z w128) c.if-x-a-eq0.true in
    (λ h. refl, λ e. omega (arith, row_size_none (degree c.args.powers.now) c.args.powers.now (at c.args.x.now) (at c.args.y.now) c.args.j c.args.a nothing, c.args.tally.fits))
