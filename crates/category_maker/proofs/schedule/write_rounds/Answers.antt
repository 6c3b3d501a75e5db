use Rattle.std.proofs.Common.{arith}
use Rattle.line_text.proofs.WritingLemmas.{front_more}
use Rattle.category_maker.proofs.RoundLemmas.{rounds_more}
use Rattle.std.proofs.Common.{◌∙◌}
use Rattle.category_maker.proofs.schedule.write_rounds.Goals as goal

pub loop-round-preserved : goal.loop-round-preserved
loop-round-preserved c = record {
  text = rounds_more c.loop-round._round c.args.rounds c.loop-round.text.items c.write_line.new.out.items c.in_ok-write_line.ensures (omega arith) ∙ c.loop-round.invariant.text;
  front = front_more c.args.text.now.items c.loop-round.text.items _ c.write_line.new.out.items c.loop-round.invariant.front c.in_ok-write_line.ensures;
}
