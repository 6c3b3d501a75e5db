use Rattle.std.proofs.Common.{◌≡◌, ◌≤◌, ◌+◌, ◌++◌, drop}
use Rattle.program_text.specs.Letters.{letters as letters_from, measurements}
use Rattle.word_moves.specs.Moves.{moving}
use Rattle.word_moves.proofs.letters.push_letters.Given as goal

abbrev pub invariant-loop-command : goal.invariant-loop-command
invariant-loop-command l = record {
  letters : l.letters.items ++ moving (letters_from l.place (drop l.command-index l.commands)) ≡ l.fn.letters.items ++ moving (letters_from l.before l.commands);
  place : l.place + measurements (drop l.command-index l.commands) ≡ l.before + measurements l.commands;
  few : l.place ≤ l.before + l.command-index;
}
