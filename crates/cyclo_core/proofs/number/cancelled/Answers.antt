use Rattle.std.proofs.Common.{◌/◌, ◌<◌, ap, sym, ◌∙◌, subst, arith}
use Rattle.std.proofs.Math.Nat.{div-le_self}
use Rattle.poly_core.specs.Table.{at}
use Rattle.cyclo_core.specs.Content.{quotient}
use Rattle.cyclo_core.specs.Ratio.{IsNumber}
use Rattle.cyclo_core.proofs.NumberLemmas.{IsCancelled, reduced_value, cancelled_lowest, cancelled_positive, content_positive, holds, reduced_over, number_over_one}
use Rattle.cyclo_core.proofs.number.cancelled.Goals as goal

pub quotients-requires-clause-positive : goal.quotients-requires-clause-positive
quotients-requires-clause-positive c = subst (λ k. 0 < k) (sym c.content-divisor.ensures) (content_positive c.args.denominator (at c.args.numerators.now) c.requires.positive)

pub nonzero_div-result : goal.nonzero_div-result
nonzero_div-result c = subst (λ k. 0 < k) (sym c.content-divisor.ensures) (content_positive c.args.denominator (at c.args.numerators.now) c.requires.positive)

is_cancelled : (c : goal.After-quotients) → IsCancelled c.args.numerators.now c.args.denominator c.quotients.result (c.args.denominator / c.content-divisor.result)
is_cancelled c =
    let value = c.quotients.ensures.value in
    record {
      full = c.told-numerators;
      positive = c.requires.positive;
      filled = c.quotients.ensures.full;
      over = λ j lt. value j lt ∙ ap (λ g. quotient g (at c.args.numerators.now j)) c.content-divisor.ensures;
      under = ap (λ g. c.args.denominator / g) c.content-divisor.ensures;
    }

number_is : (c : goal.After-quotients) → IsNumber c.quotients.result (c.args.denominator / c.content-divisor.result)
number_is c = record {
  small = c.quotients.ensures.small;
  positive = cancelled_positive _ _ _ _ (is_cancelled c);
  bounded = omega (arith, div-le_self c.args.denominator c.content-divisor.result, c.requires.bounded);
  lowest = cancelled_lowest _ _ _ _ (is_cancelled c);
}

pub returns-clause-value : goal.returns-clause-value
returns-clause-value c = reduced_value _ _ _ _ (is_cancelled c)

pub invariant_of-result-2 : goal.invariant_of-result-2
invariant_of-result-2 c = number_is c

pub returns-clause-holds : goal.returns-clause-holds
returns-clause-holds c = holds c.quotients.result (c.args.denominator / c.content-divisor.result) (number_is c)

pub invariant_of-result : goal.invariant_of-result
invariant_of-result c = number_over_one c.args.numerators.now c.args.denominator c.if-denominator-eq1.true c.requires.small

pub returns-then-denominator-eq1-clause-value : goal.returns-then-denominator-eq1-clause-value
returns-then-denominator-eq1-clause-value c = reduced_over c.args.numerators.now c.args.denominator c.if-denominator-eq1.true c.told-numerators

pub returns-then-denominator-eq1-clause-holds : goal.returns-then-denominator-eq1-clause-holds
returns-then-denominator-eq1-clause-holds c = holds c.args.numerators.now c.args.denominator (number_over_one c.args.numerators.now c.args.denominator c.if-denominator-eq1.true c.requires.small)
