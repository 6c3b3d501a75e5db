use Rattle.std.proofs.Common.{◌+◌, ◌%◌, ◌||◌, ap, ◌∙◌}
use Rattle.fusion_rules.specs.Fusion.{is_triple}
use Rattle.category_maker.proofs.StepLemmas.{sum_added}
use Rattle.category_maker.proofs.rules.allow_sum.Goals as goal

pub returns-clause-triples : goal.returns-clause-triples
returns-clause-triples c = λ x y z.
    c.in-Ok.ensures.triples.triples x y z
    ∙ ap (λ before. is_triple c.args.a c.args.b ((c.args.a + c.args.b) % c.args.n) x y z || before) (c.requires.before x y z)
    ∙ sum_added c.args.n c.args.a c.args.b x y z c.requires.some c.requires.second c.requires.below c.requires.second_below
