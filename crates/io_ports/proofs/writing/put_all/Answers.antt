use Rattle.std.proofs.Common.{arith, rules, length, ap}
use Rattle.std.proofs.lemmas.List.{take_rest}
use Rattle.io_ports.proofs.Pieces.{put_more}
use Rattle.io_ports.proofs.writing.put_all.Goals as goal

pub loop-done-preserved : goal.loop-done-preserved
loop-done-preserved g c = record {
  within = search rules;
  so_far = put_more _ _ _ c.args.bytes.now c.loop-done.done c.in-Ok.count c.loop-done.invariant.so_far (simp take_rest at c.in-Ok.ensures.appends);
  later = omega (arith, c.loop-done.invariant.later, c.write.ensures.later);
  none = λ e. absurd (omega (arith, ap length e));
}
