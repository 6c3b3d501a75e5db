use Rattle.std.proofs.Common.{◌≡◌, ◌≤◌, ◌-◌, map, drop, length}
use Rattle.line_text.specs.Text.{words_of}
use Rattle.program_text.specs.Program.{program_of}
use Rattle.site_schedule.specs.Answers.{IsBehind}
use Rattle.site_schedule.specs.Reading.{Word, turns_on}
use Rattle.site_schedule.proofs.reading.read_line.Given as goal

abbrev pub invariant-loop-name : goal.invariant-loop-name
invariant-loop-name l = record {
  turns : turns_on (program_of l.plan) l.progress.turns.items (map Word (drop l.place (words_of l.line.text.now))) ≡ turns_on (program_of l.plan) l.fn.progress.turns.items (map Word (words_of l.line.text.now));
  behind : IsBehind (program_of l.plan) l.progress;
  few : l.place ≤ length l.progress.turns.items;
}

abbrev pub decreases-loop-name : goal.decreases-loop-name
decreases-loop-name l = length (words_of l.line.text.now) - l.place
