use Rattle.std.proofs.Common.{◌≡◌, ℕ, true, drop}
use Rattle.std.specs.List.{AllByRecursion}
use Rattle.word_runs.specs.Told.{IsGap, after_raises}
use Rattle.word_runs.specs.Runs.{raises_of, settled}
use Rattle.word_runs.specs.Lives.{lives_of, AreOf, AreAlike}
use Rattle.word_runs.proofs.turn.settle.Given as goal

-- what is left of the path makes a pair, and gives what the whole path gives
abbrev pub invariant-loop-gap : goal.invariant-loop-gap
invariant-loop-gap g l =
    let e = g.E.Engine.told l.engine in
    let seen = g.E.Engine.seen l.engine in
    record {
      of : AreOf (g.E.Engine.Of l.engine) l.live;
      alike : (m : ℕ) → AreAlike e m (lives_of seen l.fn.live) → AreAlike e m (lives_of seen l.live);
      gaps : AllByRecursion (IsGap e) (drop l.gap-index l.gap-items);
      pair : AllByRecursion (λ w. e.is_pair l.k (after_raises e (drop l.gap-index l.gap-items) (e.shape w.state)) ≡ true) (lives_of seen l.live);
      left : raises_of e l.turn (drop l.gap-index l.gap-items) (lives_of seen l.live) ≡ settled e l.turn l.k (lives_of seen l.fn.live);
    }
