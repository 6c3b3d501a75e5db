use Rattle.std.proofs.Common.{◌≡◌, ◌<◌, true, false, ap, ap₂, sym, ◌∙◌, arith, rules, subst}
use Rattle.std.specs.Prelude.{pos, neg_ℤ, ◌<ℤ◌, unsigned_abs, IsTrue, Ok}
use Rattle.std.proofs.lemmas.Int.{ints, to_z-of_z}
use mir.Val.{SFits, to_z}
use mir.Syntax.{w128}
use Rattle.std.proofs.lemmas.Bool.Decides.{nat_tests}
use Rattle.poly_core.specs.Combination.{pointwise}
use Rattle.poly_core.specs.Gcd.{totient}
use Rattle.poly_core.specs.Rho.{degree}
use Rattle.poly_core.specs.Table.{at}
use Rattle.poly_core.proofs.RhoLemmas.{totient_is}
use Rattle.cyclo_core.specs.Given.{are_small}
use Rattle.cyclo_core.specs.Ratio.{Ratio, reduced, ring_at}
use Rattle.cyclo_core.specs.RingAt.{member_of_reduced}
use Rattle.cyclo_core.proofs.GivenLemmas.{all_small, small_everywhere, bits_back, number_of-big, number_of-zero, number_of-minus, number_of-plus, zero_past, negative_past}
use Rattle.cyclo_core.proofs.number.Cyclo.reduced.Goals as goal

pub returns-then-not-are_small-clause-value : goal.returns-then-not-are_small-clause-value
returns-then-not-are_small-clause-value c =
    let no : c.are_small.result ≡ false = first_of (search rules, grind (arith, nat_tests)) in
    sym (number_of-big c.args.nums.now c.args.den (ap (are_small c.args.nums.now) (sym (bits_back c.args.den c.ranges.den)) ∙ sym c.are_small.ensures ∙ no))

pub returns-then-den-eq0-clause-value : goal.returns-then-den-eq0-clause-value
returns-then-den-eq0-clause-value c =
    let fits : SFits w128 c.args.den = c.ranges.den in
    let tested = simp to_z-of_z at c.are_small.ensures in
    let yes : c.are_small.result ≡ true = first_of (search rules, grind (arith, nat_tests)) in
    sym (number_of-zero c.args.nums.now c.args.den (sym tested ∙ yes) (sym (bits_back c.args.den c.ranges.den) ∙ ap (to_z w128) c.if-den-eq0.true))

pub negated-requires : goal.negated-requires
negated-requires c =
    let fits : SFits w128 c.args.den = c.ranges.den in
    let tested = simp to_z-of_z at c.are_small.ensures in
    let yes : c.are_small.result ≡ true = first_of (search rules, grind (arith, nat_tests)) in
    small_everywhere c.args.nums.now c.args.den c.told-nums (sym tested ∙ yes)

pub cancelled-requires-clause-bounded : goal.cancelled-requires-clause-bounded
cancelled-requires-clause-bounded c =
    let fits : SFits w128 c.args.den = c.ranges.den in
    let tested = simp to_z-of_z at c.are_small.ensures in
    let yes : c.are_small.result ≡ true = first_of (search rules, grind (arith, nat_tests)) in
    let small = all_small c.args.nums.now c.args.den (sym tested ∙ yes) in
    omega (arith, small.under, simp to_z-of_z at c.unsigned_abs.ensures.value)

pub cancelled-requires-else-den-lt0-clause-small : goal.cancelled-requires-else-den-lt0-clause-small
cancelled-requires-else-den-lt0-clause-small c =
    let fits : SFits w128 c.args.den = c.ranges.den in
    let tested = simp to_z-of_z at c.are_small.ensures in
    let yes : c.are_small.result ≡ true = first_of (search rules, grind (arith, nat_tests)) in
    small_everywhere c.args.nums.now c.args.den c.told-nums (sym tested ∙ yes)

minus_is : (c : goal.After-cancelled) → c.cancelled.result ≡ reduced (λ j. neg_ℤ (at c.args.nums.now j)) (unsigned_abs c.args.den)
minus_is c =
    let fits : SFits w128 c.args.den = c.ranges.den in
    let size = simp to_z-of_z at c.unsigned_abs.ensures.value in
    let value = c.negated.ensures.value in
    c.cancelled.ensures.value ∙ ap₂ reduced (pointwise value) size

pub returns-then-den-lt0-clause-value : goal.returns-then-den-lt0-clause-value
returns-then-den-lt0-clause-value c =
    let fits : SFits w128 c.args.den = c.ranges.den in
    let tested = simp to_z-of_z at c.are_small.ensures in
    let yes : c.are_small.result ≡ true = first_of (search rules, grind (arith, nat_tests)) in
    let minus : c.args.den <ℤ pos 0 = first_of (omega (arith, ints), grind (arith, ints)) in
    ap Ok (minus_is c) ∙ sym (number_of-minus c.args.nums.now c.args.den (sym tested ∙ yes) minus)

pub returns-then-den-lt0-clause-member : goal.returns-then-den-lt0-clause-member
returns-then-den-lt0-clause-member c =
    let same : totient c.args.self.now ≡ degree c.args.self.now = rw (← c.self.view_is) (totient_is _ c.self.invariant) in
    let positive : 0 < unsigned_abs c.args.den = omega (arith, ints, c.if-den-lt0.true) in
    subst (λ (z : Ratio). IsTrue ((ring_at c.args.self.now).member z)) (sym (minus_is c))
    (member_of_reduced c.args.self.now (λ j. neg_ℤ (at c.args.nums.now j)) (unsigned_abs c.args.den) (negative_past c.args.nums.now _ _ c.told-nums same c.requires) positive)

plus_is : (c : goal.After-cancelled-else-den-lt0) → c.cancelled-else-den-lt0.result ≡ reduced (at c.args.nums.now) (unsigned_abs c.args.den)
plus_is c =
    let fits : SFits w128 c.args.den = c.ranges.den in
    let size = simp to_z-of_z at c.unsigned_abs-else-den-lt0.ensures.value in
    c.cancelled-else-den-lt0.ensures.value ∙ ap (reduced (at c.args.nums.now)) size

pub returns-else-den-lt0-clause-value : goal.returns-else-den-lt0-clause-value
returns-else-den-lt0-clause-value c =
    let fits : SFits w128 c.args.den = c.ranges.den in
    let tested = simp to_z-of_z at c.are_small.ensures in
    let yes : c.are_small.result ≡ true = first_of (search rules, grind (arith, nat_tests)) in
    let above : pos 0 <ℤ c.args.den = first_of (omega (arith, ints), search (rules, ints)) in
    ap Ok (plus_is c) ∙ sym (number_of-plus c.args.nums.now c.args.den (sym tested ∙ yes) above)

pub returns-else-den-lt0-clause-member : goal.returns-else-den-lt0-clause-member
returns-else-den-lt0-clause-member c =
    let same : totient c.args.self.now ≡ degree c.args.self.now = rw (← c.self.view_is) (totient_is _ c.self.invariant) in
    let above : pos 0 <ℤ c.args.den = first_of (omega (arith, ints), search (rules, ints)) in
    let positive : 0 < unsigned_abs c.args.den = omega (arith, ints) in
    subst (λ (z : Ratio). IsTrue ((ring_at c.args.self.now).member z)) (sym (plus_is c))
    (member_of_reduced c.args.self.now (at c.args.nums.now) (unsigned_abs c.args.den) (zero_past c.args.nums.now _ _ c.told-nums same c.requires) positive)
