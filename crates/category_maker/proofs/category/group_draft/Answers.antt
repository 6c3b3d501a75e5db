use Rattle.category_maker.proofs.PowerLemmas.{accepted}
use Rattle.category_maker.proofs.category.group_draft.Goals as goal

pub unreachable-requires : goal.unreachable-requires
unreachable-requires c = let no = c.in_default.ensures.accepted.1 (accepted c.args.n c.requires.some c.requires.few) in cc
