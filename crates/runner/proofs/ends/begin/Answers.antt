use Rattle.std.proofs.Common.{◌∙◌, length, ap}
use Rattle.tree_shapes.specs.Views.{labelled}
use Rattle.comb_laws.proofs.StartLemmas.{length-leaves}
use Rattle.runner.proofs.ends.begin.Goals as goal

pub returns-in-Ok-clause-state : goal.returns-in-Ok-clause-state
returns-in-Ok-clause-state g c = record { of = c.in-Ok.ensures.of; long = ap length c.in-Ok.ensures.strands ∙ length-leaves (labelled c.args.tree.now) }
