use Rattle.std.proofs.Common.{◌≡◌, IfOk, subst, arith}
use Rattle.tree_shapes.specs.Views.{labelled}
use Rattle.category_maker.proofs.RoundLemmas.{comb_joined}
use Rattle.category_maker.proofs.start.+comb.Goals as goal

pub returns : goal.returns
returns t c =
    subst (λ whole. IfOk c.join.result (λ tree. labelled tree ≡ whole))
    (comb_joined c.args.n c.args.nodes (labelled c.in_ok-left.left) (labelled c.strand-right.result) c.charge.result (omega arith) c.in_ok-left.ensures c.strand-right.ensures c.charge.ensures)
    c.join.ensures
