use Rattle.std.proofs.Common.{◌≡◌, ◌++◌, ◌≤◌, drop}
use Rattle.program_text.specs.Letters.{letters}
use Rattle.word_runs.proofs.run.text_letters.Given as goal

-- those so far and those of the commands that are left are all
abbrev pub invariant-loop-command : goal.invariant-loop-command
invariant-loop-command l =
    record {
      place : l.place ≤ l.command-index;
      left : l.letters.items ++ letters l.place (drop l.command-index l.commands) ≡ letters 0 l.commands;
    }
