use Rattle.std.proofs.Common.{◌++◌, [], ◌∷◌, ◌∙◌, ap, codes}
use Rattle.std.proofs.lemmas.Result.{err_from_is_err_and}
use Rattle.std.proofs.Math.Seq.{take-length}
use Rattle.std.specs.Fmt.{decimal}
use Rattle.line_text.proofs.WritingLemmas.{in_front, front_more}
use Rattle.line_text.specs.Spelling.{spelled}
use Rattle.category_text.specs.Canonical.{version_word}
use Rattle.category_text.proofs.WritingLemmas.{head_is, refused}
use Rattle.category_text.proofs.writing.write_head.Goals as goal

pub returns-clause-text : goal.returns-clause-text
returns-clause-text c =
    head_is (version_word c.args.parts.draft.now.version) c.args.parts.draft.now.ring c.args.parts.names.now c.args.text.now.items c.write_line.new.out.items c.write_root_line.new.text.items c.write_names_line.new.text.items
    (c.in_ok-write_line.ensures ∙ ap (λ w. c.args.text.now.items ++ spelled ((codes "category" ∷ w ∷ []) ∷ [])) (c.version_word.ensures ∙ ap version_word c.version.ensures.version))
    (c.in_ok-write_root_line.ensures.text ∙ ap (λ r. c.write_line.new.out.items ++ spelled ((codes "root" ∷ decimal r ∷ []) ∷ [])) c.ring.ensures) c.in_ok-write_names_line.ensures.text

pub returns-in_err-write_names_line-clause-text : goal.returns-in_err-write_names_line-clause-text
returns-in_err-write_names_line-clause-text c =
    let p = err_from_is_err_and c.from_residual-in_err-write_names_line.result c.from_residual-in_err-write_names_line.ensures.1 in
    let old = c.args.text.now.items in
    let begun = front_more old old _ c.write_line.new.out.items (take-length old) c.in_ok-write_line.ensures in
    let half = front_more old c.write_line.new.out.items _ c.write_root_line.new.text.items begun c.in_ok-write_root_line.ensures.text in
    refused c.from_residual-in_err-write_names_line.result p.0 old c.write_names_line.new.text.items _ p.1 (in_front old c.write_root_line.new.text.items c.write_names_line.new.text.items half c.in_err-write_names_line.ensures.text)
