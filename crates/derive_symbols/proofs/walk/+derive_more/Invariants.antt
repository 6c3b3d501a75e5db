use Rattle.symbol_table.specs.Draft.{given}
use Rattle.std.proofs.Common.{◌-◌}
use Rattle.derive_symbols.proofs.WalkLemmas.{Passed}
use Rattle.derive_symbols.proofs.walk.+derive_more.Given as goal

abbrev pub decreases-derive_more : goal.decreases-derive_more
decreases-derive_more g l = l.more

abbrev pub invariant-loop-t : goal.invariant-loop-t
invariant-loop-t g l = Passed (g.R.StarRing.ring l.draft.ring) g.R.StarRing.held (given l.draft) l.symbol (l.more - 1) l.index l.initial.derived l.t l.derived
