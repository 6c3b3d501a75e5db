use Rattle.std.proofs.Common.{◌≡◌, Some, take}
use Rattle.word_runs.specs.Runs.{split_words}
use Rattle.word_runs.specs.Lives.{lives_of, AreOf}
use Rattle.word_runs.proofs.live.split_all.Given as goal

-- the words of the live words so far
abbrev pub invariant-loop-word : goal.invariant-loop-word
invariant-loop-word g l =
    let seen = g.E.Engine.seen l.engine in
    record {
      value : split_words (g.E.Engine.told l.engine) l.k l.place (lives_of seen (take l.word-index l.live)) ≡ Some (lives_of seen l.next.items);
      of : AreOf (g.E.Engine.Of l.engine) l.next.items;
    }
