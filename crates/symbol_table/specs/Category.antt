-- A category: a lawful draft, with H and S at every admissible index.
use Rattle.ring_laws.specs.Ring.{Ring, Held}
use Rattle.ring_laws.specs.declared.StarRing.{Ghosts}
use Rattle.symbol_table.specs.Symbols.{Symbols, symbols_of}
use Rattle.symbol_table.specs.Draft.{DraftValue, given}
use Rattle.symbol_table.specs.Derived.{DerivedValue, HoldsSymbols}
use Rattle.symbol_table.specs.Laws.{IsLawful}

-- the symbols of a draft at all labels
abbrev pub draft_symbols : {R E : Type 0} → Ring E → Held E → DraftValue R E → Symbols E
draft_symbols ring held draft = symbols_of ring held (given draft)

-- the same, for a clause under a bound R: StarRing, as `symbols R.StarRing draft.now`
abbrev pub symbols : {R E : Type 0} → Ghosts R E → DraftValue R E → Symbols E
symbols bound draft = draft_symbols (bound.ring draft.ring) bound.held draft

-- the draft is lawful, and its H and S stand
pub record IsCategory {R E : Type 0} (ring : Ring E) (held : Held E) (draft : DraftValue R E) (derived : DerivedValue E) : Type 0 where
  pub lawful : IsLawful (draft_symbols ring held draft)
  pub holds : HoldsSymbols ring (given draft) derived
