use Rattle.std.proofs.Common.{◌++◌, ◌∷◌, ◌∙◌, ap, arith}
use Rattle.line_text.proofs.WritingLemmas.{front_more}
use Rattle.category_text.proofs.WritingLemmas.{names_more}
use Rattle.category_text.proofs.writing.write_names.Goals as goal

pub loop-label-preserved : goal.loop-label-preserved
loop-label-preserved c = record {
  text = names_more c.args.names.now c.loop-label.label c.loop-label.text.items c.write_word.new.out.items (c.in_ok-write_word.ensures ∙ ap (λ t. c.loop-label.text.items ++ 32 ∷ t) c.name.ensures) (omega arith) ∙ c.loop-label.invariant.text;
  front = front_more c.args.text.now.items c.loop-label.text.items _ c.write_word.new.out.items c.loop-label.invariant.front c.in_ok-write_word.ensures;
}
