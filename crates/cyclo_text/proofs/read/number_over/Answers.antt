use Rattle.std.proofs.Common.{◌≡◌, ◌≤◌, length, true, false, ap, sym, ◌∙◌, arith, rules}
use Rattle.std.specs.Prelude.{pos}
use Rattle.std.specs.Str.Parse.{digits_value}
use Rattle.std.proofs.lemmas.Bool.Decides.{nat_tests}
use mir.Val.{SFits}
use mir.Syntax.{w128}
use Rattle.poly_core.specs.Gcd.{totient}
use Rattle.poly_core.proofs.RhoLemmas.{degree_small}
use Rattle.cyclo_core.specs.Given.{number_of as given}
use Rattle.cyclo_core.proofs.GivenLemmas.{bits_back}
use Rattle.cyclo_text.specs.NumberWords.{comma, pieces}
use Rattle.cyclo_text.proofs.DigitLemmas.{natural_digits}
use Rattle.cyclo_text.proofs.ReadLemmas.{value_of-many, value_of-big, value_of-big_under, value_of-given}
use Rattle.cyclo_text.proofs.read.number_over.Goals as goal

pub returns-then-not-has_at_most-clause-value : goal.returns-then-not-has_at_most-clause-value
returns-then-not-has_at_most-clause-value c =
    let no : c.has_at_most.result ≡ false = first_of (search rules, grind (arith, nat_tests)) in
    sym (value_of-many c.args.ring.now (pieces comma c.args.front.now) _ (λ le. let yes = c.has_at_most.ensures.1 (omega (arith, le, c.phi-phi.ensures.value)) in cc))

pub values-requires-clause-few : goal.values-requires-clause-few
values-requires-clause-few c =
    let yes : c.has_at_most.result ≡ true = first_of (search rules, grind (arith, nat_tests)) in
    omega (arith, c.has_at_most.ensures.0 yes, c.phi-phi.ensures.degree, degree_small c.args.ring.now)

pub returns-in-None-clause-value : goal.returns-in-None-clause-value
returns-in-None-clause-value c =
    let yes : c.has_at_most.result ≡ true = first_of (search rules, grind (arith, nat_tests)) in
    sym (value_of-big c.args.ring.now (pieces comma c.args.front.now) _ (omega (arith, c.has_at_most.ensures.0 yes, c.phi-phi.ensures.value)) c.in-None.ensures.fits)

pub magnitude-requires : goal.magnitude-requires
magnitude-requires c = natural_digits c.args.under.now c.requires.under

pub returns-in-None-magnitude-clause-value : goal.returns-in-None-magnitude-clause-value
returns-in-None-magnitude-clause-value c =
    let yes : c.has_at_most.result ≡ true = first_of (search rules, grind (arith, nat_tests)) in
    sym (value_of-big_under c.args.ring.now (pieces comma c.args.front.now) _ (omega (arith, c.has_at_most.ensures.0 yes, c.phi-phi.ensures.value)) c.in-Some.ensures.fits c.in-None-magnitude.ensures.fits)

pub returns-in-Ok-clause-value : goal.returns-in-Ok-clause-value
returns-in-Ok-clause-value c =
    let yes : c.has_at_most.result ≡ true = first_of (search rules, grind (arith, nat_tests)) in
    let few : length (pieces comma c.args.front.now) ≤ totient c.args.ring.now = omega (arith, c.has_at_most.ensures.0 yes, c.phi-phi.ensures.value) in
    let fits : SFits w128 c.whole.result = search rules in
    let under = bits_back c.whole.result fits ∙ c.whole.ensures ∙ ap pos c.in-Some-magnitude.ensures.value in
    value_of-given c.args.ring.now (pieces comma c.args.front.now) (digits_value 10 c.args.under.now) c.in-Some.numbers _ few c.in-Some.ensures.fits c.in-Some-magnitude.ensures.fits c.in-Some.ensures.value c.in-Some.ensures.small
    (c.in-Ok.ensures.value ∙ ap (given c.in-Some.numbers) under)

pub returns-in-Err-TooBig-clause-value : goal.returns-in-Err-TooBig-clause-value
returns-in-Err-TooBig-clause-value c =
    let yes : c.has_at_most.result ≡ true = first_of (search rules, grind (arith, nat_tests)) in
    let few : length (pieces comma c.args.front.now) ≤ totient c.args.ring.now = omega (arith, c.has_at_most.ensures.0 yes, c.phi-phi.ensures.value) in
    let fits : SFits w128 c.whole.result = search rules in
    let under = bits_back c.whole.result fits ∙ c.whole.ensures ∙ ap pos c.in-Some-magnitude.ensures.value in
    value_of-given c.args.ring.now (pieces comma c.args.front.now) (digits_value 10 c.args.under.now) c.in-Some.numbers _ few c.in-Some.ensures.fits c.in-Some-magnitude.ensures.fits c.in-Some.ensures.value c.in-Some.ensures.small
    ((rw c.in-Err-TooBig.field-0-is at c.in-Err-TooBig.ensures.value) ∙ ap (given c.in-Some.numbers) under)

pub returns-in-Err-ZeroDenominator-clause-value : goal.returns-in-Err-ZeroDenominator-clause-value
returns-in-Err-ZeroDenominator-clause-value c =
    let yes : c.has_at_most.result ≡ true = first_of (search rules, grind (arith, nat_tests)) in
    let few : length (pieces comma c.args.front.now) ≤ totient c.args.ring.now = omega (arith, c.has_at_most.ensures.0 yes, c.phi-phi.ensures.value) in
    let fits : SFits w128 c.whole.result = search rules in
    let under = bits_back c.whole.result fits ∙ c.whole.ensures ∙ ap pos c.in-Some-magnitude.ensures.value in
    value_of-given c.args.ring.now (pieces comma c.args.front.now) (digits_value 10 c.args.under.now) c.in-Some.numbers _ few c.in-Some.ensures.fits c.in-Some-magnitude.ensures.fits c.in-Some.ensures.value c.in-Some.ensures.small
    ((rw c.in-Err-ZeroDenominator.field-0-is at c.in-Err-ZeroDenominator.ensures.value) ∙ ap (given c.in-Some.numbers) under)
