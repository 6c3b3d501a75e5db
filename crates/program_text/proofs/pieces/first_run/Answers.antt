use Rattle.std.proofs.Common.{arith}
use Rattle.std.proofs.lemmas.Bool.Decides.{nat_tests}
use Rattle.program_text.proofs.RunLemmas.{runs_front}
use Rattle.program_text.proofs.pieces.first_run.Goals as goal

pub returns-clause-runs : goal.returns-clause-runs
returns-clause-runs c = runs_front c.args.text.now c.run_end.result c.split_at.result.0.now c.split_at.result.1.now (grind (arith, nat_tests)) c.run_end.ensures.value c.split_at.ensures.front c.split_at.ensures.back
