use Rattle.std.proofs.Common.{refl}
use Rattle.line_text.specs.Text.{words_of}
use Rattle.line_text.proofs.WordLemmas.{word_is}
use Rattle.line_text.proofs.line.Line.word_or_empty.Goals as goal

pub returns : goal.returns
returns c = word_is c.word.result c.unwrap_or.result _ (words_of c.args.self.now.text.now) c.args.place c.word.ensures c.unwrap_or.ensures refl
