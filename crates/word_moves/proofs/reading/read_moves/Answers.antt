use Rattle.word_moves.proofs.ReadingLemmas.{told_few}
use Rattle.word_moves.proofs.reading.read_moves.Goals as goal

pub returns-clause-few : goal.returns-clause-few
returns-clause-few c = told_few c.args.bytes.now c.read_text.result c.read_text.ensures
