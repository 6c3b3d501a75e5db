use Rattle.std.proofs.Common.{◌∙◌, ◌++◌, ap}
use Rattle.std.proofs.lemmas.Result.{err_from_is_err_and}
use Rattle.std.proofs.Math.Seq.{take-length}
use Rattle.line_text.proofs.WritingLemmas.{in_front, front_more}
use Rattle.line_text.specs.Spelling.{spelled}
use Rattle.category_text.specs.Writing.{named_parts}
use Rattle.category_text.specs.Canonical.{head_lines}
use Rattle.category_text.specs.Writing.{all_marks_text, behind_text, fuse_text, space, vertices_text}
use Rattle.category_text.proofs.WritingLemmas.{behind_again, refused, written_is}
use Rattle.category_text.proofs.DraftLemmas.{draft_said}
use Rattle.category_text.proofs.writing.write_lines.Goals as goal

pub returns-clause-text : goal.returns-clause-text
returns-clause-text c =
    let named = named_parts c.args.parts in
    let n = c.args.parts.draft.now.rules.count in
    let head = c.write_head.new.text.items in
    let fuses = c.write_group.new.text.items in
    let fs = c.write_f_groups.new.text.items in
    behind_again c.args.text.now.items head _ (spelled (head_lines named)) _ c.in_ok-write_head.ensures.text
    (behind_again head fuses _ (space n (fuse_text named)) _ c.in_ok-write_group.ensures.text
    (behind_again fuses fs _ (space n (behind_text named)) _ c.in_ok-write_f_groups.ensures.text
    (behind_again fs c.write_vertices.new.text.items _ (vertices_text named) (all_marks_text named) c.in_ok-write_vertices.ensures.text c.in_ok-write_all_marks.ensures.text)))
    ∙ ap (λ t. c.args.text.now.items ++ t) (written_is named)

pub returns-clause-said : goal.returns-clause-said
returns-clause-said c =
    draft_said c.args.parts.names.now c.args.parts.draft.now c.in_ok-write_head.ensures.names c.requires c.in_ok-write_head.ensures.accepted c.in_ok-write_f_groups.ensures.rules
    c.in_ok-write_head.ensures.versioned
    (record { f = c.in_ok-write_f_groups.ensures.numbers; vertex = c.in_ok-write_vertices.ensures.numbers; mark = c.in_ok-write_all_marks.ensures.numbers })

pub returns-in_err-write_f_groups-clause-text : goal.returns-in_err-write_f_groups-clause-text
returns-in_err-write_f_groups-clause-text c =
    let p = err_from_is_err_and c.from_residual-in_err-write_f_groups.result c.from_residual-in_err-write_f_groups.ensures.1 in
    let old = c.args.text.now.items in
    let f_0 = take-length old in
    let f_1 = front_more old old _ c.write_head.new.text.items f_0 c.in_ok-write_head.ensures.text in
    let f_2 = front_more old c.write_head.new.text.items _ c.write_group.new.text.items f_1 c.in_ok-write_group.ensures.text in
    refused c.from_residual-in_err-write_f_groups.result p.0 old c.write_f_groups.new.text.items _ p.1 (in_front old c.write_group.new.text.items c.write_f_groups.new.text.items f_2 c.in_err-write_f_groups.ensures.text)

pub returns-in_err-write_vertices-clause-text : goal.returns-in_err-write_vertices-clause-text
returns-in_err-write_vertices-clause-text c =
    let p = err_from_is_err_and c.from_residual-in_err-write_vertices.result c.from_residual-in_err-write_vertices.ensures.1 in
    let old = c.args.text.now.items in
    let f_0 = take-length old in
    let f_1 = front_more old old _ c.write_head.new.text.items f_0 c.in_ok-write_head.ensures.text in
    let f_2 = front_more old c.write_head.new.text.items _ c.write_group.new.text.items f_1 c.in_ok-write_group.ensures.text in
    let f_3 = front_more old c.write_group.new.text.items _ c.write_f_groups.new.text.items f_2 c.in_ok-write_f_groups.ensures.text in
    refused c.from_residual-in_err-write_vertices.result p.0 old c.write_vertices.new.text.items _ p.1 (in_front old c.write_f_groups.new.text.items c.write_vertices.new.text.items f_3 c.in_err-write_vertices.ensures.text)

pub returns-in_err-write_all_marks-clause-text : goal.returns-in_err-write_all_marks-clause-text
returns-in_err-write_all_marks-clause-text c =
    let p = err_from_is_err_and c.from_residual-in_err-write_all_marks.result c.from_residual-in_err-write_all_marks.ensures.1 in
    let old = c.args.text.now.items in
    let f_0 = take-length old in
    let f_1 = front_more old old _ c.write_head.new.text.items f_0 c.in_ok-write_head.ensures.text in
    let f_2 = front_more old c.write_head.new.text.items _ c.write_group.new.text.items f_1 c.in_ok-write_group.ensures.text in
    let f_3 = front_more old c.write_group.new.text.items _ c.write_f_groups.new.text.items f_2 c.in_ok-write_f_groups.ensures.text in
    let f_4 = front_more old c.write_f_groups.new.text.items _ c.write_vertices.new.text.items f_3 c.in_ok-write_vertices.ensures.text in
    refused c.from_residual-in_err-write_all_marks.result p.0 old c.write_all_marks.new.text.items _ p.1 (in_front old c.write_vertices.new.text.items c.write_all_marks.new.text.items f_4 c.in_err-write_all_marks.ensures.text)
