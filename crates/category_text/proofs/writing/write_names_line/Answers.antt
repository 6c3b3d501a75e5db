use Rattle.category_text.proofs.WritingLemmas.{names_line_is}
use Rattle.category_text.proofs.writing.write_names_line.Goals as goal

pub returns-clause-text : goal.returns-clause-text
returns-clause-text c =
    names_line_is c.args.names.now c.args.text.now.items c.extend_from_slice.new.self.items c.write_names.new.text.items c.end_line.new.out.items c.in_ok-extend_from_slice.ensures.items c.in_ok-write_names.ensures.text c.in_ok-end_line.ensures
