use Rattle.program_text.proofs.WellLemmas.{well_formed}
use Rattle.program_text.proofs.BackTextLemmas.{programs_again, programs_one_text}
use Rattle.program_text.proofs.laws.program_texts.Goals as goal

pub returns-clause-well_formed : goal.returns-clause-well_formed
returns-clause-well_formed c = well_formed

pub returns-clause-again : goal.returns-clause-again
returns-clause-again c = programs_again

pub returns-clause-one_text : goal.returns-clause-one_text
returns-clause-one_text c = programs_one_text
