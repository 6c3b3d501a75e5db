use Rattle.std.proofs.Common.{Some, None}
use Rattle.std.proofs.lemmas.Result.{err_from_is_err_and}
use Rattle.symbol_table.specs.Category.{draft_symbols}
use Rattle.category_gate.proofs.GateLemmas.{behind_fault, behind_told, weights_told}
use Rattle.category_gate.proofs.check.Goals as goal

pub returns-in_err-derived-clause-told : goal.returns-in_err-derived-clause-told
returns-in_err-derived-clause-told g c =
    let p = err_from_is_err_and c.from_residual-in_err-derived.result c.from_residual-in_err-derived.ensures.1 in
    let s = draft_symbols (g.R.StarRing.ring c.args.draft.now.ring) g.R.StarRing.held c.args.draft.now in
    rw (p.1, p.2) (weights_told s _ (rw c.rules.ensures at c.in_ok-check.ensures.first) c.in_err-derived.ensures.told)

pub returns-in_err-check_behind-clause-told : goal.returns-in_err-check_behind-clause-told
returns-in_err-check_behind-clause-told g c =
    let p = err_from_is_err_and c.from_residual-in_err-check_behind.result c.from_residual-in_err-check_behind.ensures.1 in
    let s = draft_symbols (g.R.StarRing.ring c.args.draft.now.ring) g.R.StarRing.held c.args.draft.now in
    rw (p.1, p.2) (behind_fault s _ (rw c.rules.ensures at c.in_ok-check.ensures.first) c.in_ok-derived.ensures.told.0 c.in_err-check_behind.ensures)

pub returns-clause-told : goal.returns-clause-told
returns-clause-told g c =
    let s = draft_symbols (g.R.StarRing.ring c.args.draft.now.ring) g.R.StarRing.held c.args.draft.now in
    (rw c.rules.ensures at c.in_ok-check.ensures.first, behind_told s None c.in_ok-derived.ensures.told.0 c.in_ok-check_behind.ensures)
