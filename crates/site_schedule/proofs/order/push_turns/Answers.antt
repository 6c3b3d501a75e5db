use Rattle.std.proofs.Common.{◌∙◌, length, drop, arith, ◌+◌}
use Rattle.std.proofs.lemmas.List.{length-drop}
use Rattle.site_schedule.proofs.QueueLemmas.{turn_more}
use Rattle.site_schedule.proofs.order.push_turns.Goals as goal

pub loop-command-preserved : goal.loop-command-preserved
loop-command-preserved c =
    turn_more c.loop-command.turns.items c.push.new.items.items c.args.number
    (length (drop c.loop-command._command-index c.args.commands.now)) (length (drop (c.loop-command._command-index + 1) c.args.commands.now)) c.in_ok-push.ensures
    (let low = c.loop-command-test.true in simp length-drop (omega arith))
    ∙ c.loop-command.invariant
