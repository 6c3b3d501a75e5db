use Rattle.std.proofs.Common.{◌+◌, arith}
use Rattle.cyclo_text.proofs.DigitLemmas.{digit_in, value_more, value_least}
use Rattle.cyclo_text.proofs.digits.magnitude.Goals as goal

pub returns-then-value-clause-fits : goal.returns-then-value-clause-fits
returns-then-value-clause-fits c =
    let ds = c.args.digits.now in
    let i = c.loop-digit.digit-index in
    let more = value_more ds i c.requires c.loop-digit-test.true in
    let least = value_least ds (i + 1) in
    omega (arith, more, least, c.loop-digit.invariant.value, c.if-value.true)

pub overflow_sub-digit : goal.overflow_sub-digit
overflow_sub-digit c = omega (arith, digit_in c.args.digits.now c.loop-digit.digit-index c.requires c.loop-digit-test.true)

pub returns-then-value-gt-GREATEST-clause-fits : goal.returns-then-value-gt-GREATEST-clause-fits
returns-then-value-gt-GREATEST-clause-fits c =
    let ds = c.args.digits.now in
    let i = c.loop-digit.digit-index in
    let more = value_more ds i c.requires c.loop-digit-test.true in
    let least = value_least ds (i + 1) in
    omega (arith, more, least, c.loop-digit.invariant.value, c.if-value-gt-GREATEST.true, c.from.ensures)

pub loop-digit-preserved : goal.loop-digit-preserved
loop-digit-preserved c =
    let more = value_more c.args.digits.now c.loop-digit.digit-index c.requires c.loop-digit-test.true in
    record {
      value = omega (arith, more, c.loop-digit.invariant.value, c.from.ensures);
      small = omega (arith, c.if-value-gt-GREATEST.false);
    }
