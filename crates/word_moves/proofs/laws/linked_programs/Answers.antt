use Rattle.word_moves.proofs.LinkLemmas.{linked_is_moved}
use Rattle.word_moves.proofs.laws.linked_programs.Goals as goal

pub returns : goal.returns
returns c = linked_is_moved
