use Rattle.std.proofs.Common.{◌%◌, ap, ◌∙◌}
use Rattle.poly_core.specs.Rho.{rho}
use Rattle.cyclo_core.proofs.SmallLemmas.{rho_mod}
use Rattle.cyclo_core.proofs.small.power_row.Goals as goal

pub returns-clause-value : goal.returns-clause-value
returns-clause-value c =
    let N = c.args.powers.now in
    c.row.ensures.value ∙ ap (rho N) (c.wrapped.ensures ∙ ap (λ m. c.args.k % m) c.order_of-order.ensures.value) ∙ rho_mod N c.args.k
