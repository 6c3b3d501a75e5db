use Rattle.std.proofs.Common.{◌≡◌, true, false, [], ◌∷◌, sym, true≢false}
use Rattle.std.proofs.lemmas.List.Elements.{All-cons, All-head, All-nil, All-tail}
use Rattle.symbol_table.specs.Category.{draft_symbols}
use Rattle.symbol_table.specs.Laws.{LawHolds}
use Rattle.symbol_table.specs.declared.law.Law.TheVariants.{HexagonOne, HexagonTwo}
use Rattle.symbol_table.proofs.SameLemmas.{on_ok}
use Rattle.law_events.specs.Verdicts.{Fits}
use Rattle.hexagon_check.proofs.check.Goals as goal

never : false ≡ true → ⊥
never e = true≢false (sym e)

pub returns-in_err-check-clause-complete : goal.returns-in_err-check-clause-complete
returns-in_err-check-clause-complete g c = λ hold fit.
    let symbols = draft_symbols (g.R.StarRing.ring c.args.draft.now.ring) g.R.StarRing.held c.args.draft.now in
    let first = All-head (LawHolds symbols) HexagonOne (HexagonTwo ∷ []) hold in
    let fits = All-head (Fits symbols) HexagonOne (HexagonTwo ∷ []) fit in
    absurd (never (c.in_err-check.ensures.complete first fits))

pub returns-clause-lawful : goal.returns-clause-lawful
returns-clause-lawful g c =
    let symbols = draft_symbols (g.R.StarRing.ring c.args.draft.now.ring) g.R.StarRing.held c.args.draft.now in
    let holds = LawHolds symbols in
    let first = c.in_ok-check.ensures.lawful in
    on_ok c.check-2.result (λ second. All-cons holds HexagonOne (HexagonTwo ∷ []) first (All-cons holds HexagonTwo [] second (All-nil holds))) c.check-2.ensures.lawful

pub returns-clause-complete : goal.returns-clause-complete
returns-clause-complete g c = λ hold fit.
    let symbols = draft_symbols (g.R.StarRing.ring c.args.draft.now.ring) g.R.StarRing.held c.args.draft.now in
    let second = All-head (LawHolds symbols) HexagonTwo [] (All-tail (LawHolds symbols) HexagonOne (HexagonTwo ∷ []) hold) in
    let fits = All-head (Fits symbols) HexagonTwo [] (All-tail (Fits symbols) HexagonOne (HexagonTwo ∷ []) fit) in
    c.check-2.ensures.complete second fits
