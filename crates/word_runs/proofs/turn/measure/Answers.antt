use Rattle.std.proofs.Common.{◌<◌}
use Rattle.word_runs.specs.Lives.{lives_of}
use Rattle.word_runs.proofs.SplitLemmas.{all_places}
use Rattle.word_runs.proofs.StepLemmas.{alike_made}
use Rattle.word_runs.proofs.turn.measure.Goals as goal

pub split_within-requires-clause-place : goal.split_within-requires-clause-place
split_within-requires-clause-place g c =
    all_places (λ m. c.args.place < m) c.requires.alike.0 (lives_of (g.E.Engine.seen c.args.engine.now) c.settle.new.live) c.requires.alike.2
    (c.in_ok-settle.ensures.alike c.requires.alike.0 c.requires.alike.1).long

pub returns-clause-alike : goal.returns-clause-alike
returns-clause-alike g c =
    let seen = g.E.Engine.seen c.args.engine.now in
    alike_made (g.E.Engine.told c.args.engine.now) (g.met.E.Engine.shapes c.args.engine.now) c.args.turn c.args.k c.args.place
    (lives_of seen c.args.live.now) (lives_of seen c.settle.new.live) (λ next. lives_of seen next.items) c.split_within.result
    c.in_ok-settle.ensures.alike c.split_within.ensures.stated
