use Rattle.std.proofs.Common.{◌≡◌, ◌++◌, drop}
use Rattle.run_laws.specs.Turns.{text_order_from}
use Rattle.site_schedule.proofs.QueueLemmas.{own_commands}
use Rattle.site_schedule.proofs.order.text_order.Given as goal

abbrev pub invariant-loop-site : goal.invariant-loop-site
invariant-loop-site l = record {
  order : l.turns.items ++ text_order_from l.number (own_commands (drop l.site-index l.plan.sites.items)) ≡ text_order_from 0 (own_commands l.plan.sites.items);
  number : l.number ≡ l.site-index;
}
