use Rattle.std.proofs.Common.{◌≡◌, ◌++◌, ◌-◌, map}
use Rattle.category_text.specs.Canonical.{counting}
use Rattle.category_maker.specs.MadeProgram.{command_at}
use Rattle.category_maker.proofs.commands.commands_from.Given as goal

abbrev pub invariant-loop-j : goal.invariant-loop-j
invariant-loop-j l = l.commands.items ++ map (command_at l.first) (counting l.j (l.count - l.j)) ≡ map (command_at l.first) (counting 0 l.count)
