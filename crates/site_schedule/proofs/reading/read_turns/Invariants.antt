use Rattle.std.proofs.Common.{◌≡◌, length}
use Rattle.program_text.specs.Program.{program_of}
use Rattle.site_schedule.specs.Answers.{IsBehind}
use Rattle.site_schedule.specs.Reading.{said_in, turns_on}
use Rattle.site_schedule.proofs.reading.read_turns.Given as goal

abbrev pub invariant-loop-line : goal.invariant-loop-line
invariant-loop-line l = record {
  turns : turns_on (program_of l.plan) l.progress.turns.items (said_in l.lines.ahead) ≡ turns_on (program_of l.plan) l.fn.progress.turns.items (said_in l.fn.lines.ahead);
  behind : IsBehind (program_of l.plan) l.progress;
}

abbrev pub decreases-loop-line : goal.decreases-loop-line
decreases-loop-line l = length l.lines.ahead
