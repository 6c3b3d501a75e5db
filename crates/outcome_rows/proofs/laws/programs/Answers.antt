use Rattle.outcome_rows.proofs.ProgramLemmas.{programs_are_runnable}
use Rattle.outcome_rows.proofs.laws.programs.Goals as goal

pub returns : goal.returns
returns g c = programs_are_runnable (g.E.Engine.told c.args._engine.now)
