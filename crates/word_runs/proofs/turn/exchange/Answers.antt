use Rattle.std.proofs.Common.{refl}
use Rattle.word_runs.specs.Lives.{lives_of, test_of, IsTestBelow}
use Rattle.word_runs.specs.declared.engine.Step.TheVariants.{Exchange}
use Rattle.word_runs.proofs.SplitLemmas.{all_places}
use Rattle.word_runs.proofs.StepLemmas.{alike_left}
use Rattle.word_runs.proofs.turn.exchange.Goals as goal

pub step_within-requires-clause-place : goal.step_within-requires-clause-place
step_within-requires-clause-place g c =
    all_places (λ m. IsTestBelow m (test_of c.args.test)) c.requires.alike.0 (lives_of (g.E.Engine.seen c.args.engine.now) c.settle.new.live) c.requires.alike.2
    (c.in_ok-settle.ensures.alike c.requires.alike.0 c.requires.alike.1).long

pub returns-clause-alike : goal.returns-clause-alike
returns-clause-alike g c =
    let seen = g.E.Engine.seen c.args.engine.now in
    alike_left (g.E.Engine.told c.args.engine.now) (g.met.E.Engine.shapes c.args.engine.now) c.args.turn (test_of c.args.test) (Exchange c.args.k c.args.sign)
    (lives_of seen c.args.live.now) (lives_of seen c.settle.new.live) (lives_of seen c.step_within.new.live) c.step_within.result
    (λ word t f. refl) c.in_ok-settle.ensures.alike c.step_within.ensures.stated
