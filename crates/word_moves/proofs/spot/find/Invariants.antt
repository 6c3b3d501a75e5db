use Rattle.std.proofs.Common.{◌≡◌, ◌+◌, ◌<◌, length, take}
use Rattle.word_moves.specs.Pages.{flat}
use Rattle.word_moves.proofs.spot.find.Given as goal

abbrev pub invariant-loop-number : goal.invariant-loop-number
invariant-loop-number l = record {
  place : length (flat (take l.number l.pages)) + l.at ≡ l.count;
  more : 0 < l.number → 0 < l.at;
}
