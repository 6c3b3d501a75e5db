use Rattle.std.proofs.Common.{◌≡◌, ◌*◌, ap, ap₂, sym, ◌∙◌, arith, rules}
use Rattle.std.specs.Prelude.{◌+ℤ◌, ◌*ℤ◌, unsigned_abs, ◌%◌}
use Rattle.std.proofs.lemmas.Int.{to_z-of_z}
use mir.Val.{SFits}
use mir.Syntax.{w128}
use Rattle.poly_core.specs.Rho.{degree, order, rho}
use Rattle.poly_core.specs.Table.{at}
use Rattle.cyclo_core.specs.Image.{image_term, image_size_term}
use Rattle.cyclo_core.proofs.SumLemmas.{int_sum-more, nat_sum-more, nat_sum-below}
use Rattle.cyclo_core.proofs.image.image_numerator.Goals as goal

pub loop-a-preserved : goal.loop-a-preserved
loop-a-preserved c =
    let x = at c.args.x.now in
    let a = c.loop-a.a in
    let n = c.args.powers.now in
    let fits : SFits w128 c.power_at.result = search rules in
    let power : c.power_at.result ≡ rho n ((a * c.args.k) % order n) c.args.j = c.power_at.ensures ∙ ap (λ m. rho n ((a * m) % order n) c.args.j) c.from.ensures in
    let value = simp to_z-of_z at c.in_ok-tally.ensures.value in
    let size = simp to_z-of_z at c.in_ok-tally.ensures.size in
    let inv = c.loop-a.invariant in
    record {
      value = value ∙ ap₂ (λ s t. s +ℤ t) inv.value (ap (λ z. x a *ℤ z) power) ∙ sym (int_sum-more a (image_term n c.args.k x c.args.j));
      size = omega (arith, size, inv.size, nat_sum-more a (image_size_term n c.args.k x c.args.j), ap (λ z. unsigned_abs (x a) * unsigned_abs z) power);
    }

pub returns-in_err-tally-clause-fits : goal.returns-in_err-tally-clause-fits
returns-in_err-tally-clause-fits c =
    let x = at c.args.x.now in
    let a = c.loop-a.a in
    let n = c.args.powers.now in
    let fits : SFits w128 c.power_at.result = search rules in
    let power : c.power_at.result ≡ rho n ((a * c.args.k) % order n) c.args.j = c.power_at.ensures ∙ ap (λ m. rho n ((a * m) % order n) c.args.j) c.from.ensures in
    let over = simp to_z-of_z at c.in_err-tally.ensures.fits in
    let part = nat_sum-below a (degree n) (image_size_term n c.args.k x c.args.j) (omega arith) in
    let same = ap (λ z. unsigned_abs (x a) * unsigned_abs z) power in
    first_of (grind arith, search rules)
