use Rattle.std.proofs.Common.{arith}
use Rattle.category_images.proofs.WalkLemmas.{symbol_filled}
use Rattle.category_images.proofs.make.fill_all.Goals as goal

pub loop-symbol-preserved : goal.loop-symbol-preserved
loop-symbol-preserved g c =
    symbol_filled (g.P.Pattern.number c.args.pattern.now) (g.P.Pattern.wanted c.args.pattern.now) (g.P.Pattern.stated c.args.pattern.now) c.args.symbols.now c.loop-symbol.symbol-index _
    c.loop-symbol.made c.fill.new.made (omega arith) c.loop-symbol.invariant c.in_ok-fill.ensures
