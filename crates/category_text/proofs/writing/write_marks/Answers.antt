use Rattle.std.proofs.Common.{ℕ, ◌∙◌, length, arith}
use Rattle.line_text.proofs.WritingLemmas.{front_more}
use Rattle.category_text.specs.Writing.{named_parts}
use Rattle.category_text.specs.Writing.{mark_text, MarkNumber}
use Rattle.category_text.proofs.WritingLemmas.{texts_more, up_to_more}
use Rattle.category_text.proofs.writing.write_marks.Goals as goal

pub loop-a-preserved : goal.loop-a-preserved
loop-a-preserved c = record {
  text = texts_more (mark_text (named_parts c.args.parts) c.args.kind) c.loop-a.a (length c.args.parts.names.now) c.loop-a.text.items c.write_mark.new.text.items c.in_ok-write_mark.ensures.text (omega arith) ∙ c.loop-a.invariant.text;
  front = front_more c.args.text.now.items c.loop-a.text.items _ c.write_mark.new.text.items c.loop-a.invariant.front c.in_ok-write_mark.ensures.text;
  numbers = up_to_more (λ (k : ℕ). MarkNumber (named_parts c.args.parts) c.args.kind k) c.loop-a.a c.loop-a.invariant.numbers c.in_ok-write_mark.ensures.number;
}
