use Rattle.std.proofs.Common.{◌≡◌, ◌+◌, drop, ℕ}
use Rattle.word_runs.specs.Runs.{run_of}
use Rattle.word_runs.specs.Lives.{lives_of, AreOf, AreAlike}
use Rattle.word_runs.proofs.run.run_turns.Given as goal

-- the letters that are left give what all letters give
abbrev pub invariant-loop-letter : goal.invariant-loop-letter
invariant-loop-letter g l =
    let e = g.E.Engine.told l.engine in
    let seen = g.E.Engine.seen l.engine in
    record {
      turn : l.turn ≡ l.letter-index + 1;
      of : AreOf (g.E.Engine.Of l.engine) l.live.items;
      alike : (m : ℕ) → AreAlike e m (lives_of seen l.fn.live.items) → AreAlike e m (lives_of seen l.live.items);
      left : run_of e l.turn (drop l.letter-index l.letters) (lives_of seen l.live.items) ≡ run_of e 1 l.letters (lives_of seen l.fn.live.items);
    }
