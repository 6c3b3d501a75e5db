use Rattle.std.proofs.Common.{◌≡◌, ◌++◌, drop}
use Rattle.program_text.specs.Program.{program_of}
use Rattle.run_laws.specs.Turns.{turns}
use Rattle.site_schedule.specs.Legal.{letters_in}
use Rattle.site_schedule.specs.Queues.{all_left}
use Rattle.site_schedule.proofs.letters.letters_of.Given as goal

abbrev pub invariant-loop-site : goal.invariant-loop-site
invariant-loop-site l = l.letters.items ++ turns (all_left l.queues.items) (drop l.site-index l.schedule.turns.items) ≡ turns (letters_in (program_of l.plan)) l.schedule.turns.items
