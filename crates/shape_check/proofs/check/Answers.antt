use Rattle.std.proofs.Common.{◌∙◌, ◌≡◌, None, subst}
use Rattle.std.proofs.lemmas.Result.{err_from_is_err_and}
use Rattle.symbol_table.specs.Category.{draft_symbols}
use Rattle.symbol_table.specs.Draft.{DraftValue}
use Rattle.symbol_table.specs.declared.law.Law.TheVariants.{HexagonOne, HexagonTwo, Pentagon}
use Rattle.law_events.specs.Sides.{first_of}
use Rattle.shape_check.specs.Answers.{IsFault, Passes}
use Rattle.shape_check.proofs.AnswerLemmas.{hexagon_fault, last_told, pentagon_fault}
use Rattle.shape_check.proofs.check.Goals as goal

pub returns-in_err-check_shape : goal.returns-in_err-check_shape
returns-in_err-check_shape g c =
    let ring = g.R.StarRing.ring in
    let held = g.R.StarRing.held in
    let draft = c.args.draft.now in
    let p = err_from_is_err_and c.from_residual-in_err-check_shape.result c.from_residual-in_err-check_shape.ensures.1 in
    let found = c.in_err-check_shape.field-0.0 in
    let told = subst (λ (d : DraftValue _ _). IsFault found (first_of (draft_symbols (ring d.ring) held d) Pentagon)) c.in_ok-table.ensures c.in_err-check_shape.ensures.told in
    rw (p.1, p.2) (pentagon_fault (draft_symbols (ring draft.ring) held draft) found told)

pub returns-in_err-check_shape-2 : goal.returns-in_err-check_shape-2
returns-in_err-check_shape-2 g c =
    let ring = g.R.StarRing.ring in
    let held = g.R.StarRing.held in
    let draft = c.args.draft.now in
    let p = err_from_is_err_and c.from_residual-in_err-check_shape-2.result c.from_residual-in_err-check_shape-2.ensures.1 in
    let found = c.in_err-check_shape-2.field-0.0 in
    let pentagon = subst (λ (d : DraftValue _ _). first_of (draft_symbols (ring d.ring) held d) Pentagon ≡ None) c.in_ok-table.ensures c.in_ok-check_shape.ensures.told in
    let told =
    subst (λ (d : DraftValue _ _). IsFault found (first_of (draft_symbols (ring d.ring) held d) HexagonOne)) (c.in_ok-check_shape.ensures.draft ∙ c.in_ok-table.ensures)
    c.in_err-check_shape-2.ensures.told
    in
    rw (p.1, p.2) (hexagon_fault (draft_symbols (ring draft.ring) held draft) found pentagon told)

pub returns : goal.returns
returns g c =
    let ring = g.R.StarRing.ring in
    let held = g.R.StarRing.held in
    let draft = c.args.draft.now in
    let second = c.in_ok-check_shape.ensures.draft ∙ c.in_ok-table.ensures in
    let pentagon = subst (λ (d : DraftValue _ _). first_of (draft_symbols (ring d.ring) held d) Pentagon ≡ None) c.in_ok-table.ensures c.in_ok-check_shape.ensures.told in
    let hexagon = subst (λ (d : DraftValue _ _). first_of (draft_symbols (ring d.ring) held d) HexagonOne ≡ None) second c.in_ok-check_shape-2.ensures.told in
    let told =
    subst (λ (d : DraftValue _ _). Passes c.check_shape-3.result (first_of (draft_symbols (ring d.ring) held d) HexagonTwo)) (c.in_ok-check_shape-2.ensures.draft ∙ second)
    c.check_shape-3.ensures.told
    in
    last_told (draft_symbols (ring draft.ring) held draft) c.check_shape-3.result pentagon hexagon told
