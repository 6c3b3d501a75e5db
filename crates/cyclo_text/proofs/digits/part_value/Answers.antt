use Rattle.std.proofs.Common.{ap, ◌∙◌, rules}
use Rattle.std.proofs.lemmas.Int.{to_z-of_z}
use mir.Val.{SFits}
use mir.Syntax.{w128}
use Rattle.std.specs.Str.Parse.{digits_value}
use Rattle.cyclo_text.proofs.DigitLemmas.{part_digits, part_small, part_large, part_is}
use Rattle.cyclo_text.proofs.digits.part_value.Goals as goal

pub magnitude-requires : goal.magnitude-requires
magnitude-requires c = rw c.sign_and_digits-minus.ensures.digits (part_digits c.args.part.now c.requires)

pub returns-in_err-size-clause-fits : goal.returns-in_err-size-clause-fits
returns-in_err-size-clause-fits c =
    let large = rw c.sign_and_digits-minus.ensures.digits at c.in_err-size.ensures.fits in
    rw c.from_residual.ensures (part_large c.args.part.now large)

pub returns-clause-fits : goal.returns-clause-fits
returns-clause-fits c =
    let small = rw c.sign_and_digits-minus.ensures.digits at c.in_ok-size.ensures.fits in
    part_small c.args.part.now small

pub returns-clause-value : goal.returns-clause-value
returns-clause-value c =
    let fits : SFits w128 c.with_sign.result = search rules in
    simp to_z-of_z (c.with_sign.ensures.value ∙ part_is c.args.part.now _ _ c.sign_and_digits-minus.ensures.minus (c.in_ok-size.ensures.value ∙ ap (digits_value 10) c.sign_and_digits-minus.ensures.digits))
