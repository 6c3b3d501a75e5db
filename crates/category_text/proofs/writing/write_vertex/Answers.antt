use Rattle.std.proofs.lemmas.Result.{err_from_is_err_and}
use Rattle.std.proofs.Math.Seq.{take-length}
use Rattle.line_text.proofs.WritingLemmas.{in_front, front_more}
use Rattle.category_text.proofs.WritingLemmas.{refused}
use Rattle.category_text.proofs.writing.write_vertex.Goals as goal

pub returns-in_err-write_value-clause-text : goal.returns-in_err-write_value-clause-text
returns-in_err-write_value-clause-text c =
    let p = err_from_is_err_and c.from_residual-in_err-write_value.result c.from_residual-in_err-write_value.ensures.1 in
    let old = c.args.text.now.items in
    let begun = front_more old old _ c.extend_from_slice.new.self.items (take-length old) c.in_ok-extend_from_slice.ensures.items in
    let labels = front_more old c.extend_from_slice.new.self.items _ c.write_labels.new.text.items begun c.in_ok-write_labels.ensures in
    refused c.from_residual-in_err-write_value.result p.0 old c.write_value.new.text.items _ p.1 (in_front old c.write_labels.new.text.items c.write_value.new.text.items labels c.in_err-write_value.ensures)
