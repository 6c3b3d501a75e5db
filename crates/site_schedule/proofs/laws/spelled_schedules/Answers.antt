use Rattle.site_schedule.proofs.SpelledLemmas.{schedules_again}
use Rattle.site_schedule.proofs.laws.spelled_schedules.Goals as goal

pub returns : goal.returns
returns c = schedules_again
