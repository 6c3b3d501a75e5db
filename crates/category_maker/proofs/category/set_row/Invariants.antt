use Rattle.category_maker.specs.Steps.{IsSetUpTo}
use Rattle.category_maker.proofs.category.set_row.Given as goal

abbrev pub invariant-loop-b : goal.invariant-loop-b
invariant-loop-b l = IsSetUpTo l.n l.a l.b l.draft
