use Rattle.std.proofs.Common.{ℕ, ◌∙◌, length, arith}
use Rattle.symbol_table.specs.Index.{v_index}
use Rattle.line_text.proofs.WritingLemmas.{front_more}
use Rattle.category_text.specs.Writing.{named_parts}
use Rattle.category_text.specs.Writing.{group_text, GroupNumber}
use Rattle.category_text.proofs.WritingLemmas.{texts_more, up_to_more}
use Rattle.category_text.proofs.writing.write_row.Goals as goal

pub loop-c-preserved : goal.loop-c-preserved
loop-c-preserved c = record {
  text = texts_more (λ (k : ℕ). group_text (named_parts c.args.parts) c.args.group (v_index c.args.a c.args.b k)) c.loop-c.c (length c.args.parts.names.now) c.loop-c.text.items c.write_entry.new.text.items c.in_ok-write_entry.ensures.text (omega arith) ∙ c.loop-c.invariant.text;
  front = front_more c.args.text.now.items c.loop-c.text.items _ c.write_entry.new.text.items c.loop-c.invariant.front c.in_ok-write_entry.ensures.text;
  numbers = up_to_more (λ (k : ℕ). GroupNumber (named_parts c.args.parts) c.args.group (v_index c.args.a c.args.b k)) c.loop-c.c c.loop-c.invariant.numbers c.in_ok-write_entry.ensures.numbers;
}
