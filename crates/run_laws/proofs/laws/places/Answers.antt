use Rattle.run_laws.proofs.LetterPlaces.{text_measures_each, schedules_measure_each}
use Rattle.run_laws.proofs.laws.places.Goals as goal

pub returns-clause-text : goal.returns-clause-text
returns-clause-text c = text_measures_each

pub returns-clause-schedules : goal.returns-clause-schedules
returns-clause-schedules c = schedules_measure_each
