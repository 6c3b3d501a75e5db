use Rattle.run_laws.proofs.OrderLemmas.{words_are_all}
use Rattle.run_laws.proofs.laws.words.Goals as goal

pub returns : goal.returns
returns c = words_are_all
