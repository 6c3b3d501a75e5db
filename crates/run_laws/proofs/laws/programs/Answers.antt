use Rattle.run_laws.proofs.ProgramLemmas.{programs_may_run}
use Rattle.run_laws.proofs.laws.programs.Goals as goal

pub returns : goal.returns
returns c = programs_may_run
