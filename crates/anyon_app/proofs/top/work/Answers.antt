use Rattle.std.proofs.Common.{sym}
use Rattle.anyon_app.specs.Headline.{command_work}
use Rattle.anyon_app.specs.Make.{make_work}
use Rattle.anyon_app.proofs.StageLemmas.{reports, retold}
use Rattle.anyon_app.proofs.top.work.Goals as goal

pub returns-in-Make : goal.returns-in-Make
unfolding command_work make_work
returns-in-Make g c = retold _ _ _ _ command_work _ _ _ (sym c.in-Make.is) (reports _ _ _ _ _ c.make.ensures)
