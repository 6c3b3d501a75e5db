use Rattle.std.proofs.Common.{sym, subst}
use Rattle.word_runs.specs.Lives.{AreAlike}
use Rattle.word_runs.proofs.RunLemmas.{one_alike}
use Rattle.word_runs.proofs.run.run_letters.Goals as goal

pub run_turns-requires-clause-alike : goal.run_turns-requires-clause-alike
run_turns-requires-clause-alike g c =
    let e = g.E.Engine.told c.args.engine.now in
    let start = g.E.Engine.seen c.args.engine.now c.args.start in
    (c.args.places, subst (AreAlike e c.args.places) (sym c.in_ok-live.ensures.value) (one_alike e c.args.places start), c.requires.fit)
