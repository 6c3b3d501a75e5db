use Rattle.category_maker.proofs.StepLemmas.{named_is}
use Rattle.category_maker.proofs.category.group_category.Goals as goal

pub returns : goal.returns
returns c = named_is c.args.n c.in_ok-names.names c.in_ok-draft.draft c.in_ok-names.ensures c.in_ok-draft.ensures
