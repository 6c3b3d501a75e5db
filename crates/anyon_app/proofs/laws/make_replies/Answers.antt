use Rattle.anyon_app.proofs.MakeLemmas.{makes_rows, wants_none}
use Rattle.anyon_app.proofs.laws.make_replies.Goals as goal

pub returns-clause-rows : goal.returns-clause-rows
returns-clause-rows c = makes_rows c.made_categories.ensures c.made_programs.ensures.read

pub returns-clause-alone : goal.returns-clause-alone
returns-clause-alone c = wants_none
