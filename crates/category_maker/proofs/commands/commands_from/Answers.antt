use Rattle.std.proofs.Common.{◌∷◌, [], ◌++◌, ◌∙◌, ap, arith}
use Rattle.category_maker.specs.MadeProgram.{command_at}
use Rattle.category_maker.proofs.RoundLemmas.{items_more}
use Rattle.category_maker.proofs.commands.commands_from.Goals as goal

pub loop-j-preserved : goal.loop-j-preserved
loop-j-preserved c =
    items_more (command_at c.args.first) c.loop-j.j c.args.count c.loop-j.commands.items c.push.new.self.items (c.in_ok-push.ensures.items ∙ ap (λ x. c.loop-j.commands.items ++ x ∷ []) c.command_at.ensures) (omega arith) ∙ c.loop-j.invariant
