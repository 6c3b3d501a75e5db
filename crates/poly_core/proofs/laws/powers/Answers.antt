use Rattle.poly_core.proofs.LawLemmas.{steps_round, vanishes_at_units, puts_powers}
use Rattle.poly_core.proofs.laws.powers.Goals as goal

pub returns-clause-steps : goal.returns-clause-steps
returns-clause-steps c = steps_round c.args._root c.requires

pub returns-clause-vanishing : goal.returns-clause-vanishing
returns-clause-vanishing c = vanishes_at_units c.args._root c.requires

pub returns-clause-substitution : goal.returns-clause-substitution
returns-clause-substitution c = puts_powers c.args._root c.requires
