use Rattle.std.proofs.Common.{sym, ◌∙◌}
use Rattle.category_images.proofs.RuleLemmas.{triple_there}
use Rattle.category_images.proofs.rules.allow_triple.Goals as goal

pub returns-then-fuses-clause-grow : goal.returns-then-fuses-clause-grow
returns-then-fuses-clause-grow g c =
    let there = triple_there (g.P.Pattern.wanted c.args.pattern.now) c.count-count.ensures.rules c.allow.result c.args.rules.now c.allow.new.self c.args.a c.args.b c.args.c c.requires.part
    (sym c.fuses.ensures ∙ c.if-fuses.true) c.allow.ensures.told c.allow.ensures.triples in
    there.0

pub returns-then-fuses-clause-triple : goal.returns-then-fuses-clause-triple
returns-then-fuses-clause-triple g c =
    let there = triple_there (g.P.Pattern.wanted c.args.pattern.now) c.count-count.ensures.rules c.allow.result c.args.rules.now c.allow.new.self c.args.a c.args.b c.args.c c.requires.part
    (sym c.fuses.ensures ∙ c.if-fuses.true) c.allow.ensures.told c.allow.ensures.triples in
    λ _. there.1
