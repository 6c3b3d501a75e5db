use Rattle.std.proofs.Common.{◌≡◌, ◌-◌, ◌^◌, take}
use Rattle.std.specs.Prelude.{min}
use Rattle.word_runs.specs.Runs.{width}
use Rattle.word_runs.specs.Lives.{lives_of}
use Rattle.word_runs.proofs.turn.width.Given as goal

-- the amplitudes of the words so far
abbrev pub invariant-loop-word : goal.invariant-loop-word
invariant-loop-word g l =
    l.entries ≡ min (width (g.E.Engine.told l.engine) (lives_of (g.E.Engine.seen l.engine) (take l.word-index l.live))) (2 ^ 64 - 1)
