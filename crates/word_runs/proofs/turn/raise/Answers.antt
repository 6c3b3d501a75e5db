use Rattle.std.proofs.Common.{None}
use Rattle.word_runs.specs.Lives.{lives_of}
use Rattle.word_runs.specs.declared.engine.Step.TheVariants.{Raise}
use Rattle.word_runs.proofs.StepLemmas.{alike_left}
use Rattle.word_runs.proofs.turn.raise.Goals as goal

pub returns-clause-alike : goal.returns-clause-alike
returns-clause-alike g c =
    let seen = g.E.Engine.seen c.args.engine.now in
    alike_left (g.E.Engine.told c.args.engine.now) (g.met.E.Engine.shapes c.args.engine.now) c.args.turn None (Raise c.args.gap)
    (lives_of seen c.args.live.now) (lives_of seen c.args.live.now) (lives_of seen c.step_within.new.live) c.step_within.result
    (λ word t f. absurd (cc)) (λ m h. h) c.step_within.ensures.stated
