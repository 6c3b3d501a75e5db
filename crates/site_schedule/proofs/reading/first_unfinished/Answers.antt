use Rattle.std.proofs.Common.{sym, ◌∙◌, arith}
use Rattle.std.proofs.lemmas.Grind.{common_steps}
use Rattle.site_schedule.proofs.QueueLemmas.{first_here}
use Rattle.site_schedule.proofs.reading.first_unfinished.Goals as goal

pub returns-then-not-is_empty : goal.returns-then-not-is_empty
returns-then-not-is_empty c =
    sym (first_here c.args.queues.now c.loop-queue.number c.loop-queue.queue-index c.queue-item.result c.loop-queue-test.true c.queue-item.is
    (let a = c.is_empty.ensures in let b = c.if-not-is_empty.true in grind (arith, common_steps)))
    ∙ c.loop-queue.invariant.same
