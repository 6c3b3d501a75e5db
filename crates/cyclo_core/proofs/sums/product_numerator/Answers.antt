use Rattle.std.proofs.Common.{arith, rules}
use Rattle.poly_core.specs.Rho.{degree}
use Rattle.poly_core.specs.Table.{at}
use Rattle.cyclo_core.specs.Ratio.{product_size_term}
use Rattle.cyclo_core.specs.Sums.{nat_sum}
use Rattle.cyclo_core.proofs.SumLemmas.{nat_sum-below}
use Rattle.cyclo_core.proofs.sums.product_numerator.Goals as goal

pub returns-in_err-tally-clause-fits : goal.returns-in_err-tally-clause-fits
returns-in_err-tally-clause-fits c =
    let part = nat_sum-below c.loop-a.a (degree c.args.powers.now) (λ a. nat_sum (degree c.args.powers.now) (product_size_term c.args.powers.now (at c.args.x.now) (at c.args.y.now) c.args.j a)) (omega arith) in
    first_of (grind arith, search rules)
