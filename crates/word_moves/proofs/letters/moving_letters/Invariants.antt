use Rattle.std.proofs.Common.{◌≡◌, ◌≤◌, ◌+◌, ◌++◌, drop, length}
use Rattle.program_text.specs.Letters.{letters as letters_from}
use Rattle.program_text.specs.declared.form.TheConstants.{COMMAND_LIMIT}
use Rattle.word_moves.specs.Moves.{moving}
use Rattle.word_moves.proofs.LetterLemmas.{own_commands}
use Rattle.word_moves.proofs.letters.moving_letters.Given as goal

abbrev pub invariant-loop-site : goal.invariant-loop-site
invariant-loop-site l = record {
  letters : l.letters.items ++ moving (letters_from l.place (own_commands (drop l.site-index l.plan.sites.items))) ≡ moving (letters_from 0 (own_commands l.plan.sites.items));
  few : l.place + length (own_commands (drop l.site-index l.plan.sites.items)) ≤ COMMAND_LIMIT;
}
