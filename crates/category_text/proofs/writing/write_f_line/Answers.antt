use Rattle.std.proofs.Common.{ℕ, List, ◌∙◌, ◌++◌, ◌∷◌, [], ap}
use Rattle.std.proofs.lemmas.Result.{err_from_is_err_and}
use Rattle.std.proofs.Math.Seq.{take-length}
use Rattle.line_text.proofs.WritingLemmas.{in_front, front_more}
use Rattle.cyclo_text.specs.NumberWords.{spelled_number}
use Rattle.fusion_rules.specs.Names.{name_of}
use Rattle.category_text.proofs.WritingLemmas.{behind_again, refused, six_names}
use Rattle.category_text.proofs.writing.write_f_line.Goals as goal

pub returns : goal.returns
returns c =
    let name : ℕ → List ℕ = name_of c.args.names.now in
    let at = c.args.at.now in
    let begun = c.push.new.self.items in
    let half = c.write_labels.new.text.items in
    let number = spelled_number c.args.value.now in
    behind_again c.args.text.now.items begun _ (102 ∷ []) _ c.in_ok-push.ensures.items
    (behind_again begun half _ (32 ∷ (name at.a ++ 32 ∷ (name at.b ++ 32 ∷ name at.c))) _ c.in_ok-write_labels.ensures
    (behind_again half c.write_labels-2.new.text.items _ (32 ∷ (name at.d ++ 32 ∷ (name at.e ++ 32 ∷ name at.f))) (32 ∷ (number ++ 10 ∷ [])) c.in_ok-write_labels-2.ensures c.in_ok-write_value.ensures))
    ∙ ap (λ w. c.args.text.now.items ++ 102 ∷ w) (six_names (name at.a) (name at.b) (name at.c) (name at.d) (name at.e) (name at.f) number (10 ∷ []))

pub returns-in_err-write_labels-2 : goal.returns-in_err-write_labels-2
returns-in_err-write_labels-2 c =
    let p = err_from_is_err_and c.from_residual-in_err-write_labels-2.result c.from_residual-in_err-write_labels-2.ensures.1 in
    let old = c.args.text.now.items in
    let begun = front_more old old _ c.push.new.self.items (take-length old) c.in_ok-push.ensures.items in
    let half = front_more old c.push.new.self.items _ c.write_labels.new.text.items begun c.in_ok-write_labels.ensures in
    refused c.from_residual-in_err-write_labels-2.result p.0 old c.write_labels-2.new.text.items _ p.1 (in_front old c.write_labels.new.text.items c.write_labels-2.new.text.items half c.in_err-write_labels-2.ensures)

pub returns-in_err-write_value : goal.returns-in_err-write_value
returns-in_err-write_value c =
    let p = err_from_is_err_and c.from_residual-in_err-write_value.result c.from_residual-in_err-write_value.ensures.1 in
    let old = c.args.text.now.items in
    let begun = front_more old old _ c.push.new.self.items (take-length old) c.in_ok-push.ensures.items in
    let half = front_more old c.push.new.self.items _ c.write_labels.new.text.items begun c.in_ok-write_labels.ensures in
    let all = front_more old c.write_labels.new.text.items _ c.write_labels-2.new.text.items half c.in_ok-write_labels-2.ensures in
    refused c.from_residual-in_err-write_value.result p.0 old c.write_value.new.text.items _ p.1 (in_front old c.write_labels-2.new.text.items c.write_value.new.text.items all c.in_err-write_value.ensures)
