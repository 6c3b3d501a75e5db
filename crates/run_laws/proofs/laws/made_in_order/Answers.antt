use Rattle.run_laws.proofs.TextRises.{text_rises}
use Rattle.run_laws.proofs.laws.made_in_order.Goals as goal

pub returns : goal.returns
returns g c = text_rises (g.E.Engine.told c.args._engine.now)
