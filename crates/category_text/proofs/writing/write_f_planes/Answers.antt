use Rattle.std.proofs.Common.{ℕ, ◌∙◌, length, arith}
use Rattle.line_text.proofs.WritingLemmas.{front_more}
use Rattle.category_text.specs.Writing.{named_parts}
use Rattle.category_text.specs.Writing.{behind_text, row, BehindNumber, InRow}
use Rattle.category_text.proofs.WritingLemmas.{texts_more, up_to_more}
use Rattle.category_text.proofs.writing.write_f_planes.Goals as goal

pub loop-b-preserved : goal.loop-b-preserved
loop-b-preserved c = record {
  text = texts_more (λ (k : ℕ). row c.args.parts.draft.now.rules.count (behind_text (named_parts c.args.parts)) c.args.a k) c.loop-b.b (length c.args.parts.names.now) c.loop-b.text.items c.write_f_rows.new.text.items c.in_ok-write_f_rows.ensures.text (omega arith) ∙ c.loop-b.invariant.text;
  front = front_more c.args.text.now.items c.loop-b.text.items _ c.write_f_rows.new.text.items c.loop-b.invariant.front c.in_ok-write_f_rows.ensures.text;
  numbers = up_to_more (λ (k : ℕ). InRow c.args.parts.draft.now.rules.count (BehindNumber (named_parts c.args.parts)) c.args.a k) c.loop-b.b c.loop-b.invariant.numbers c.in_ok-write_f_rows.ensures.numbers;
}
