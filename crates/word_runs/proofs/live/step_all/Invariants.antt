use Rattle.std.proofs.Common.{◌≡◌, Some, drop, take}
use Rattle.word_runs.specs.Runs.{step_words}
use Rattle.word_runs.specs.Lives.{lives_of, test_of, AreOf}
use Rattle.word_runs.proofs.live.step_all.Given as goal

-- the words so far are stepped, and those left are as they were
abbrev pub invariant-loop-word : goal.invariant-loop-word
invariant-loop-word g l =
    record {
      stepped : step_words (g.E.Engine.told l.engine) (test_of l.test) l.step (lives_of (g.E.Engine.seen l.engine) (take l.word-index l.fn.live)) ≡ Some (lives_of (g.E.Engine.seen l.engine) (take l.word-index l.live));
      of : AreOf (g.E.Engine.Of l.engine) l.live;
      left : drop l.word-index l.live ≡ drop l.word-index l.fn.live;
    }
