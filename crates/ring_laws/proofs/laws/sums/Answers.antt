use Rattle.ring_laws.proofs.SumLemmas.{total_swap, product-total, sum_over-order}
use Rattle.ring_laws.proofs.laws.sums.Goals as goal

pub returns-clause-exchange : goal.returns-clause-exchange
returns-clause-exchange g c = total_swap (g.met.R.StarRing.laws c.args._ring.now)

pub returns-clause-distribution : goal.returns-clause-distribution
returns-clause-distribution g c = product-total (g.met.R.StarRing.laws c.args._ring.now)

pub returns-clause-order : goal.returns-clause-order
returns-clause-order g c = sum_over-order (g.met.R.StarRing.laws c.args._ring.now) _
