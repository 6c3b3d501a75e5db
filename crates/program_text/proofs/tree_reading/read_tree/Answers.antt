use Rattle.std.proofs.Common.{arith}
use Rattle.program_text.proofs.TreeLemmas.{answer_fits}
use Rattle.program_text.proofs.tree_reading.read_tree.Goals as goal

pub returns-clause-fits : goal.returns-clause-fits
returns-clause-fits c = answer_fits c.deref.result.now c.whole_tree.result c.whole_tree.ensures (omega (arith, c.deref.ensures.len))
