use Rattle.std.proofs.Common.{◌≡◌, ◌+◌, ◌++◌, ◌≤◌, drop, length}
use Rattle.program_text.specs.declared.form.TheConstants.{COMMAND_LIMIT}
use Rattle.site_schedule.specs.Queues.{all_left}
use Rattle.site_schedule.proofs.QueueLemmas.{commands_in_sites, letters_from}
use Rattle.site_schedule.proofs.queues.queues_of.Given as goal

abbrev pub invariant-loop-site : goal.invariant-loop-site
invariant-loop-site l = record {
  letters : all_left l.queues.items ++ letters_from l.place (drop l.site-index l.plan.sites.items) ≡ letters_from 0 l.plan.sites.items;
  few : l.place + length (commands_in_sites (drop l.site-index l.plan.sites.items)) ≤ COMMAND_LIMIT;
}
