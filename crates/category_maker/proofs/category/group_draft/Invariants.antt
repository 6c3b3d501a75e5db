use Rattle.category_maker.specs.Steps.{IsSetUpTo}
use Rattle.category_maker.proofs.category.group_draft.Given as goal

abbrev pub invariant-loop-a : goal.invariant-loop-a
invariant-loop-a l = IsSetUpTo l.n l.a 0 l.draft
