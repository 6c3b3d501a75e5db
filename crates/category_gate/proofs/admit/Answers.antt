use Rattle.std.proofs.Common.{subst, sym}
use Rattle.symbol_table.specs.Draft.{DraftValue}
use Rattle.symbol_table.specs.Laws.{IsLawful}
use Rattle.symbol_table.specs.Category.{draft_symbols}
use Rattle.category_gate.proofs.admit.Goals as goal

pub seal-requires-clause-lawful : goal.seal-requires-clause-lawful
seal-requires-clause-lawful g c = let told = c.in_ok-derived.ensures.told in c.of_draft.ensures.sound told.0 told.1

pub returns-clause-lawful : goal.returns-clause-lawful
returns-clause-lawful g c =
    let told = c.in_ok-derived.ensures.told in
    subst (λ (d : DraftValue _ _). IsLawful (draft_symbols (g.R.StarRing.ring d.ring) g.R.StarRing.held d)) (sym c.seal.ensures) (c.of_draft.ensures.sound told.0 told.1)
