use Rattle.std.proofs.Common.{◌<◌, ap, ◌∙◌, arith, inl, inr}
use Rattle.std.proofs.lemmas.Bool.{cases_lt}
use Rattle.poly_core.specs.Rho.{degree}
use Rattle.poly_core.specs.Table.{at}
use Rattle.cyclo_core.specs.Convolution.{row_sum, column}
use Rattle.cyclo_core.specs.Sums.{int_sum}
use Rattle.cyclo_core.proofs.SmallLemmas.{IsCut, product_is, sizes_fit, folded_past}
use Rattle.cyclo_core.proofs.small.whole_product.Goals as goal

cut_x : (c : goal.After-folded) → IsCut (degree c.args.powers.now) c.args.x.now c.in_ok-xs.xs
cut_x c =
    let phi = c.places-phi.ensures.value in
    let value = c.in_ok-xs.ensures.value in
    let rest = c.in_ok-xs.ensures.rest in
    record { value = λ k lt. value k (omega (arith, phi)); rest = λ k le. rest k (omega (arith, phi)) }

cut_y : (c : goal.After-folded) → IsCut (degree c.args.powers.now) c.args.y.now c.in_ok-ys.ys
cut_y c =
    let phi = c.places-phi.ensures.value in
    let value = c.in_ok-ys.ensures.value in
    let rest = c.in_ok-ys.ensures.rest in
    record { value = λ k lt. value k (omega (arith, phi)); rest = λ k le. rest k (omega (arith, phi)) }

pub folded-requires-clause-ends : goal.folded-requires-clause-ends
folded-requires-clause-ends c = λ k le. c.convolved.ensures.past k (omega (arith, le, c.places-phi.ensures.value))

pub returns-clause-value : goal.returns-clause-value
returns-clause-value c = λ j lt.
    let N = c.args.powers.now in
    let phi = c.places-phi.ensures.value in
    let in_sixteen : j < 16 = omega (arith, c.places-phi.ensures.few, phi) in
    c.folded.ensures.value j in_sixteen
    ∙ c.convolved.ensures.value (column N j)
    ∙ ap (λ n. int_sum n (row_sum (at c.in_ok-xs.xs) (at c.in_ok-ys.ys) (column N j))) phi
    ∙ product_is N c.args.x.now c.args.y.now c.in_ok-xs.xs c.in_ok-ys.ys j (cut_x c) (cut_y c)

pub returns-clause-fits : goal.returns-clause-fits
returns-clause-fits c = λ j lt. sizes_fit c.args.powers.now c.args.x.now c.args.y.now c.in_ok-xs.xs c.in_ok-ys.ys j (cut_x c) (cut_y c) c.in_ok-xs.ensures.small c.in_ok-ys.ensures.small

pub returns-clause-rest : goal.returns-clause-rest
returns-clause-rest c = λ j le. elim (cases_lt j 16) [
  | inl lt ↦ c.folded.ensures.value j lt ∙ folded_past c.args.powers.now c.convolved.result j le
  | inr past ↦ c.folded.ensures.rest j past
]
