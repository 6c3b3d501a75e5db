use Rattle.std.proofs.Common.{◌≡◌, ◌+◌, ◌≤◌, drop}
use Rattle.program_text.specs.Letters.{measurements}
use Rattle.program_text.proofs.letter.count_measurements.Given as goal

-- those so far and those left are all
abbrev pub invariant-loop-command : goal.invariant-loop-command
invariant-loop-command l =
    record {
      count : l.count + measurements (drop l.command-index l.commands) ≡ measurements l.commands;
      few : l.count ≤ l.command-index;
    }
