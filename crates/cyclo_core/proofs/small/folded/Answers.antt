use Rattle.std.proofs.Common.{rules, ◌≡◌, ◌*◌, ◌≤◌, ap, ◌∙◌, sym, refl, arith}
use Rattle.poly_core.specs.Rho.{degree}
use Rattle.poly_core.specs.Table.{at, past_end}
use Rattle.cyclo_core.specs.Convolution.{weight, column}
use Rattle.cyclo_core.specs.Sums.{int_sum}
use Rattle.cyclo_core.proofs.SmallLemmas.{heads_are, next_sum, weighed_cut}
use Rattle.cyclo_core.proofs.small.folded.Goals as goal

pub loop-k-init : goal.loop-k-init
loop-k-init c =
    let N = c.args.powers.now in
    let phi = c.places-phi.ensures.value in
    let low = c.head-out.ensures.value in
    let high = c.head-out.ensures.rest in
    let small = c.head-out.ensures.small _ c.requires.small in
    record {
      value = λ j lt. heads_are N c.args.c.now c.head-out.result (λ i below. low i (omega (arith, phi))) (λ i le. high i (omega (arith, phi))) j ∙ ap (λ n. int_sum n (weight (at c.args.c.now) (column N j))) (sym phi);
      small = λ i. omega (arith, small i);
      len = search rules;
    }

pub loop-k-preserved : goal.loop-k-preserved
loop-k-preserved c =
    let inv = c.loop-k.invariant in
    let size = c.add_power.ensures.size in
    record {
      value = λ j lt. next_sum _ _ _ (weight (at c.args.c.now) (column c.args.powers.now j)) c.loop-k.k (c.add_power.ensures.value j lt) (inv.value j lt) refl;
      small = λ i. omega (arith, size i, inv.small i);
      len = search rules;
    }

pub returns-clause-value : goal.returns-clause-value
returns-clause-value c = λ j lt.
    let N = c.args.powers.now in
    let phi = c.places-phi.ensures.value in
    let few = c.places-phi.ensures.few in
    let at_end : c.loop-k.k ≡ 2 * degree N = search rules in
    c.loop-k.invariant.value j lt
    ∙ ap (λ n. int_sum n (weight (at c.args.c.now) (column N j))) at_end
    ∙ weighed_cut (2 * degree N) c.args.c.now (column N j) (omega (arith, few, phi)) c.requires.ends

pub returns-clause-rest : goal.returns-clause-rest
returns-clause-rest c = λ j le. past_end c.loop-k.out j (omega (arith, le, c.loop-k.invariant.len))

pub returns-clause-size : goal.returns-clause-size
returns-clause-size c = λ j.
    let few = c.places-phi.ensures.few in
    let at_end : c.loop-k.k ≤ 2 * c.places-phi.result = search rules in
    omega (arith, c.loop-k.invariant.small j, few, at_end)
