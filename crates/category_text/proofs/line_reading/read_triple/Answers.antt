use Rattle.std.proofs.Common.{sym}
use Rattle.line_text.specs.Text.{words_of}
use Rattle.category_text.proofs.BodyLemmas.{triple_read}
use Rattle.category_text.proofs.line_reading.read_triple.Goals as goal

pub returns-clause-said : goal.returns-clause-said
returns-clause-said c = λ version ring. triple_read version ring c.args.names.now (words_of c.args.line.now.text.now) c.args.rules.now c.allow.new.rules c.in_ok-at.at (sym c.in_ok-sized.ensures) (sym c.in_ok-at.ensures.labels) (sym c.in_ok-allow.ensures.told) c.in_ok-allow.ensures.given
