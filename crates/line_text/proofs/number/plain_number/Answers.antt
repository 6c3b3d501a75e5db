use Rattle.std.proofs.Common.{◌≡◌, ◌+◌, true, arith, rules}
use Rattle.line_text.specs.Plain.{is_plain_number}
use Rattle.line_text.proofs.PlainLemmas.{digit_in, value_more, value_so_far}
use Rattle.line_text.proofs.number.plain_number.Goals as goal

pub overflow_mul-value : goal.overflow_mul-value
overflow_mul-value c =
    let is : is_plain_number c.args.word.now ≡ true = search rules in
    omega (arith, value_more c.args.word.now c.loop-digit.digit-index is c.loop-digit-test.true, value_so_far c.args.word.now (c.loop-digit.digit-index + 1) is, c.loop-digit.invariant)

pub overflow_sub-digit : goal.overflow_sub-digit
overflow_sub-digit c =
    let is : is_plain_number c.args.word.now ≡ true = search rules in
    omega (arith, digit_in c.args.word.now c.loop-digit.digit-index is c.loop-digit-test.true)

pub overflow_add-value : goal.overflow_add-value
overflow_add-value c =
    let is : is_plain_number c.args.word.now ≡ true = search rules in
    omega (arith, value_more c.args.word.now c.loop-digit.digit-index is c.loop-digit-test.true, value_so_far c.args.word.now (c.loop-digit.digit-index + 1) is, c.loop-digit.invariant, c.from.ensures)

pub loop-digit-preserved : goal.loop-digit-preserved
loop-digit-preserved c =
    let is : is_plain_number c.args.word.now ≡ true = search rules in
    omega (arith, value_more c.args.word.now c.loop-digit.digit-index is c.loop-digit-test.true, c.loop-digit.invariant, c.from.ensures)

pub returns-clause-below : goal.returns-clause-below
returns-clause-below c =
    let is : is_plain_number c.args.word.now ≡ true = search rules in
    omega (arith, value_so_far c.args.word.now c.loop-digit.digit-index is, c.loop-digit.invariant)
