use Rattle.run_laws.specs.Schedules.{site_letters}
use Rattle.std.proofs.Common.{◌∙◌}
use Rattle.run_laws.proofs.TextOrder.{turns_of_text, text_is_schedule, letters_of_text}
use Rattle.run_laws.proofs.laws.text_order.Goals as goal

pub returns : goal.returns
returns c sites = (text_is_schedule (site_letters 0 sites), turns_of_text (site_letters 0 sites) ∙ letters_of_text 0 sites)
