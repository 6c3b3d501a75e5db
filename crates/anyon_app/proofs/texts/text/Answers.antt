use Rattle.anyon_app.specs.Refusals.{too_long}
use Rattle.anyon_app.proofs.StageLemmas.{text_passes}
use Rattle.anyon_app.proofs.texts.text.Goals as goal

pub returns-clause-passes : goal.returns-clause-passes
returns-clause-passes g c = text_passes _ _ _ _ (too_long c.args.kind) c.args.name.now _ c.loaded.ensures
