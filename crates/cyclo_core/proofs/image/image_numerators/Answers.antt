use Rattle.std.proofs.Common.{◌≡◌, ℕ, ◌≤◌, ◌^◌, ◌-◌, ◌∙◌, arith, rules, refl, unsigned_abs, below_more, length-set}
use Rattle.std.specs.Prelude.{ℤ}
use Rattle.std.proofs.lemmas.Int.{to_z-of_z}
use mir.Val.{SFits}
use mir.Syntax.{w128}
use Rattle.poly_core.specs.Table.{at}
use Rattle.poly_core.proofs.Filling.{more}
use Rattle.cyclo_core.specs.Image.{image_over}
use Rattle.cyclo_core.proofs.image.image_numerators.Goals as goal

pub loop-j-preserved : goal.loop-j-preserved
loop-j-preserved c =
    let v = c.in_ok-out.field-0 in
    let fits : SFits w128 v = search rules in
    let inv = c.loop-j.invariant in
    let P : ℕ → ℤ → Type 0 = λ k z. z ≡ image_over c.args.powers.now c.args.k (at c.args.x.now) k in
    let S : ℤ → Type 0 = λ z. unsigned_abs z ≤ 2 ^ 127 - 1 in
    let next = more c.loop-j.out c.loop-j.j v P S (omega (arith, inv.len, c.places-end.ensures.few)) c.in_ok-out.ensures.value c.in_ok-out.ensures.small (record { value = inv.value; rest = inv.rest; small = inv.small }) in
    simp to_z-of_z (record {
      value = next.value;
      fits = below_more _ _ inv.fits (c.in_ok-out.ensures.fits.1 refl);
      rest = next.rest;
      len = length-set _ _ _ ∙ inv.len;
      small = next.small;
    })
