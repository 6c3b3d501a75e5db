use Rattle.category_text.specs.Named.{named_draft}
use Rattle.category_text.proofs.AgainLemmas.{read_again, short_text}
use Rattle.category_text.proofs.WritingLemmas.{where_ok}
use Rattle.category_text.proofs.writing.write_parts.Goals as goal

pub returns-clause-again : goal.returns-clause-again
returns-clause-again c = where_ok c.write_lines-written.result c.cut_back.result c.cut_back.ensures.answer c.write_lines-written.ensures.said (read_again (named_draft c.args.names.now c.args.draft.now))

pub returns-clause-short : goal.returns-clause-short
returns-clause-short c = where_ok c.write_lines-written.result c.cut_back.result c.cut_back.ensures.answer c.write_lines-written.ensures.said (short_text (named_draft c.args.names.now c.args.draft.now))
