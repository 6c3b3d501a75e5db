use Rattle.std.proofs.Common.{◌∙◌, arith}
use Rattle.category_maker.proofs.StepLemmas.{row_added}
use Rattle.category_maker.proofs.rules.allow_row.Goals as goal

pub returns-clause-triples : goal.returns-clause-triples
returns-clause-triples c = λ x y z.
    c.loop-b.invariant.triples x y z ∙ row_added c.args.n c.args.a c.loop-b.b x y z (omega arith)
