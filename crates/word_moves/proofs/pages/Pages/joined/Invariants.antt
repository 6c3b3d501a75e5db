use Rattle.std.proofs.Common.{◌≡◌, take}
use Rattle.word_moves.specs.Pages.{flat}
use Rattle.word_moves.proofs.pages.Pages.joined.Given as goal

abbrev pub invariant-loop-page : goal.invariant-loop-page
invariant-loop-page l = l.letters.items ≡ flat (take l.page-index l.page-items)
