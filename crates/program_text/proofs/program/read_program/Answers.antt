use Rattle.fusion_rules.specs.Fusion.{fuses}
use Rattle.program_text.proofs.WellLemmas.{told_well}
use Rattle.program_text.proofs.program.read_program.Goals as goal

pub returns-clause-well_formed : goal.returns-clause-well_formed
returns-clause-well_formed c = told_well c.args.names.now c.args.rules.now.count (fuses c.args.rules.now) c.args.bytes.now c.read_lines.result c.requires.counts c.read_lines.ensures
