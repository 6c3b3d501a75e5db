use Rattle.std.proofs.Common.{◌∙◌, length, ap, arith}
use Rattle.program_text.specs.Letters.{measurements}
use Rattle.word_runs.proofs.RunLemmas.{letters_fit, letters_long}
use Rattle.word_runs.proofs.run.run_commands.Goals as goal

pub run_letters-requires-clause-fit : goal.run_letters-requires-clause-fit
run_letters-requires-clause-fit g c =
    let e = g.E.Engine.told c.args.engine.now in
    let m = measurements c.args.commands.now in
    let all = letters_fit e m 0 c.args.commands.now (omega arith) c.requires.tests c.requires.gaps in
    rw (c.count_measurements.ensures, c.deref.ensures.value, c.in_ok-letters.ensures) all

pub run_letters-requires-clause-few : goal.run_letters-requires-clause-few
run_letters-requires-clause-few g c =
    let long = ap length (c.deref.ensures.value ∙ c.in_ok-letters.ensures) ∙ letters_long 0 c.args.commands.now in
    omega (arith, long, c.requires.few)
