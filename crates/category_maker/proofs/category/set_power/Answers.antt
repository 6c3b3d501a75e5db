use Rattle.std.proofs.Common.{◌*◌, ◌%◌, ap, ◌∙◌}
use Rattle.category_maker.specs.MadeCategory.{root_power}
use Rattle.category_maker.proofs.StepLemmas.{power_set}
use Rattle.category_maker.proofs.category.set_power.Goals as goal

pub returns-in-Ok : goal.returns-in-Ok
returns-in-Ok c =
    power_set c.args.n c.args.a c.args.b c.args.draft.now c.set_r.new.self c.root_power-value.result _ c.requires.below c.requires.second_below c.requires.before
    (c.root_power-value.ensures.value ∙ ap (λ n. root_power n ((c.args.a * c.args.b) % c.args.n)) (c.ring.ensures ∙ c.requires.before.ring)) c.in-Ok.ensures.told.1 c.in-Ok.ensures.sets
