use Rattle.category_images.specs.Answers.{symbols_of_root}
use Rattle.category_images.proofs.PairLemmas.{product_rules}
use Rattle.category_images.proofs.pairs.PairsPattern.count.Goals as goal

pub returns-clause-rules : goal.returns-clause-rules
returns-clause-rules c =
    product_rules (symbols_of_root c.args.self.now.one.now) (symbols_of_root c.args.self.now.two.now) c.all_labels.ensures.proper c.all_labels.ensures.unit c.all_labels-2.ensures.proper c.all_labels-2.ensures.unit
    c.requires.valid.1
