use Rattle.std.proofs.Common.{◌≡◌, ◌++◌, ◌+◌, take, map}
use Rattle.line_text.specs.Spelling.{spelled}
use Rattle.program_text.specs.Letters.{measurements}
use Rattle.program_text.specs.Program.{outcome_of}
use Rattle.program_text.specs.Written.{lines_from}
use Rattle.program_text.proofs.program_writing.extend_commands.Given as goal

abbrev pub invariant-loop-command : goal.invariant-loop-command
invariant-loop-command l = record {
  text : l.out.items ≡ l.fn.out.items ++ spelled (lines_from l.names (map outcome_of l.outcomes) l.place (take l.command-index l.commands));
  place : l.next ≡ l.place + measurements (take l.command-index l.commands);
}
