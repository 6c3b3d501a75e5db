use Rattle.std.proofs.Common.{ℕ, ◌∙◌, length, arith}
use Rattle.line_text.proofs.WritingLemmas.{front_more}
use Rattle.category_text.specs.Writing.{named_parts}
use Rattle.category_text.specs.Writing.{group_text, plane, GroupNumber, InPlane}
use Rattle.category_text.proofs.WritingLemmas.{texts_more, up_to_more}
use Rattle.category_text.proofs.writing.write_group.Goals as goal

pub loop-a-preserved : goal.loop-a-preserved
loop-a-preserved c = record {
  text = texts_more (λ (k : ℕ). plane c.args.parts.draft.now.rules.count (group_text (named_parts c.args.parts) c.args.group) k) c.loop-a.a (length c.args.parts.names.now) c.loop-a.text.items c.write_plane.new.text.items c.in_ok-write_plane.ensures.text (omega arith) ∙ c.loop-a.invariant.text;
  front = front_more c.args.text.now.items c.loop-a.text.items _ c.write_plane.new.text.items c.loop-a.invariant.front c.in_ok-write_plane.ensures.text;
  numbers = up_to_more (λ (k : ℕ). InPlane c.args.parts.draft.now.rules.count (GroupNumber (named_parts c.args.parts) c.args.group) k) c.loop-a.a c.loop-a.invariant.numbers c.in_ok-write_plane.ensures.numbers;
}
