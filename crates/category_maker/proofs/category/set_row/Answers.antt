use Rattle.std.proofs.Common.{arith}
use Rattle.category_maker.proofs.StepLemmas.{row_set}
use Rattle.category_maker.proofs.category.set_row.Goals as goal

pub returns : goal.returns
returns c = row_set c.args.n c.args.a c.loop-b.b c.loop-b.draft (omega arith) c.loop-b.invariant
