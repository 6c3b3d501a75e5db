use Rattle.std.proofs.Common.{◌≡◌, drop}
use Rattle.site_schedule.specs.Queues.{all_left, first_left}
use Rattle.site_schedule.proofs.reading.first_unfinished.Given as goal

abbrev pub invariant-loop-queue : goal.invariant-loop-queue
invariant-loop-queue l = record {
  same : first_left l.number (all_left (drop l.queue-index l.queues)) ≡ first_left 0 (all_left l.queues);
  number : l.number ≡ l.queue-index;
}
