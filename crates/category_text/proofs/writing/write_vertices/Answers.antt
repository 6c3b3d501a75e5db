use Rattle.std.proofs.lemmas.Result.{err_from_is_err_and}
use Rattle.std.proofs.Math.Seq.{take-length}
use Rattle.line_text.proofs.WritingLemmas.{in_front, front_more}
use Rattle.category_text.specs.declared.kind.VertexKind.TheVariants.{OnR, OnW, OnV}
use Rattle.category_text.specs.Writing.{named_parts}
use Rattle.category_text.specs.Writing.{space, vertex_text}
use Rattle.category_text.proofs.WritingLemmas.{behind_again, refused}
use Rattle.category_text.proofs.writing.write_vertices.Goals as goal

pub returns-clause-text : goal.returns-clause-text
returns-clause-text c =
    let named = named_parts c.args.parts in
    let n = c.args.parts.draft.now.rules.count in
    behind_again c.args.text.now.items c.write_group.new.text.items _ (space n (vertex_text named OnR)) _ c.in_ok-write_group.ensures.text
    (behind_again c.write_group.new.text.items c.write_group-2.new.text.items _ (space n (vertex_text named OnW)) (space n (vertex_text named OnV)) c.in_ok-write_group-2.ensures.text c.in_ok-write_group-3.ensures.text)

pub returns-clause-numbers : goal.returns-clause-numbers
returns-clause-numbers c = record { r = c.in_ok-write_group.ensures.numbers; w = c.in_ok-write_group-2.ensures.numbers; v = c.in_ok-write_group-3.ensures.numbers }

pub returns-in_err-write_group-3-clause-text : goal.returns-in_err-write_group-3-clause-text
returns-in_err-write_group-3-clause-text c =
    let p = err_from_is_err_and c.from_residual-in_err-write_group-3.result c.from_residual-in_err-write_group-3.ensures.1 in
    let old = c.args.text.now.items in
    let f_1 = front_more old old _ c.write_group.new.text.items (take-length old) c.in_ok-write_group.ensures.text in
    let f_2 = front_more old c.write_group.new.text.items _ c.write_group-2.new.text.items f_1 c.in_ok-write_group-2.ensures.text in
    refused c.from_residual-in_err-write_group-3.result p.0 old c.write_group-3.new.text.items _ p.1 (in_front old c.write_group-2.new.text.items c.write_group-3.new.text.items f_2 c.in_err-write_group-3.ensures.text)
