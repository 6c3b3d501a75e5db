use Rattle.site_schedule.proofs.BehindLemmas.{behind_none}
use Rattle.site_schedule.proofs.progress.begin.Goals as goal

pub returns-clause-behind : goal.returns-clause-behind
returns-clause-behind c = behind_none c.args.plan.now _ c.requires.commands c.requires.sites c.new.ensures.items c.new-2.ensures.items c.in_ok-queues_of.ensures
