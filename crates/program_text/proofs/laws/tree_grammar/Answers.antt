use Rattle.program_text.proofs.TreeLemmas.{tree_again, tree_exact}
use Rattle.program_text.proofs.laws.tree_grammar.Goals as goal

pub returns-clause-again : goal.returns-clause-again
returns-clause-again c = tree_again

pub returns-clause-exact : goal.returns-clause-exact
returns-clause-exact c = tree_exact
