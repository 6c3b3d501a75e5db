use Rattle.std.proofs.Common.{◌≡◌, ◌≤◌, ◌+◌, ◌*◌, drop, length}
use Rattle.word_moves.specs.Verdicts.{moves_made}
use Rattle.word_moves.proofs.step.make_moves.Given as goal

abbrev pub invariant-loop-step : goal.invariant-loop-step
invariant-loop-step l = record {
  made : moves_made l.strands (l.number + 1) (drop l.step-index l.moves) l.letters ≡ moves_made l.strands 1 l.moves l.fn.letters;
  number : l.number ≡ l.step-index;
  few : length l.letters ≤ length l.fn.letters + 2 * l.step-index;
}
