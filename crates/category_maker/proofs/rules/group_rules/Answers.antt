use Rattle.std.proofs.Common.{◌∙◌}
use Rattle.category_maker.proofs.StepLemmas.{none_added}
use Rattle.category_maker.proofs.rules.group_rules.Goals as goal

pub loop-a-init : goal.loop-a-init
loop-a-init c = record {
  count = c.new-rules.ensures.count;
  triples = λ x y z. c.new-rules.ensures.triples x y z ∙ none_added c.args.n x y z;
}
