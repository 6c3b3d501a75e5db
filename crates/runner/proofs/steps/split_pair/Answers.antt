use Rattle.std.proofs.Common.{length, arith}
use Rattle.symbol_table.specs.Category.{draft_symbols}
use Rattle.runner.proofs.StepLemmas.{parts_are}
use Rattle.runner.proofs.steps.split_pair.Goals as goal

pub split-requires-clause-gap : goal.split-requires-clause-gap
split-requires-clause-gap g c = omega (arith, c.requires.high, c.requires.state.of.leaves)

pub returns-in-Ok-clause-state : goal.returns-in-Ok-clause-state
returns-in-Ok-clause-state g c =
    let category = c.args.category.now in
    let s = draft_symbols (g.R.StarRing.ring category.ring) g.R.StarRing.held category in
    parts_are s c.args.k c.args.category.now.rules.count c.args.state.now (length c.args.state.now.strands) c.requires.state.long c.in-Ok.ensures.of c.in-Ok.parts.items c.in-Ok.ensures.parts
