use Rattle.std.proofs.Common.{[], ◌∷◌, ◌++◌, ◌∙◌, ap}
use Rattle.std.proofs.lemmas.Result.{err_from_is_err_and}
use Rattle.symbol_table.specs.Category.{draft_symbols}
use Rattle.symbol_table.specs.declared.law.Law.TheVariants.{Rigid}
use Rattle.derive_symbols.specs.declared.WeightFault.TheVariants as fault
use Rattle.weight_check.specs.Order.{symbol_laws, derive_laws, inverse_laws}
use Rattle.weight_check.proofs.AnswerLemmas.{event_alone, fault_first, fault_next, none_alone, none_both}
use Rattle.weight_check.proofs.derive_checked.Goals as goal

pub returns-in_err-check_inverses : goal.returns-in_err-check_inverses
returns-in_err-check_inverses g c =
    let p = err_from_is_err_and c.from_residual-in_err-check_inverses.result c.from_residual-in_err-check_inverses.ensures.1 in
    let symbols = draft_symbols (g.R.StarRing.ring c.args.draft.now.ring) g.R.StarRing.held c.args.draft.now in
    let found = fault_first symbols inverse_laws (Rigid ∷ []) (fault.Law c.in_err-check_inverses.field-0.0) c.in_err-check_inverses.ensures in
    rw (p.1, p.2)
    (fault_next symbols symbol_laws (derive_laws ++ inverse_laws ++ Rigid ∷ []) (fault.Law c.in_err-check_inverses.field-0.0) c.in_ok-check_symbols.ensures
    (fault_next symbols derive_laws (inverse_laws ++ Rigid ∷ []) (fault.Law c.in_err-check_inverses.field-0.0) c.in_ok-derived.ensures.told.0 found))

pub returns-in_err-check_rigid : goal.returns-in_err-check_rigid
returns-in_err-check_rigid g c =
    let p = err_from_is_err_and c.from_residual-in_err-check_rigid.result c.from_residual-in_err-check_rigid.ensures.1 in
    let symbols = draft_symbols (g.R.StarRing.ring c.args.draft.now.ring) g.R.StarRing.held c.args.draft.now in
    let found = event_alone symbols Rigid c.in_err-check_rigid.field-0.0 c.in_err-check_rigid.ensures in
    rw (p.1, p.2)
    (fault_next symbols symbol_laws (derive_laws ++ inverse_laws ++ Rigid ∷ []) (fault.Law c.in_err-check_rigid.field-0.0) c.in_ok-check_symbols.ensures
    (fault_next symbols derive_laws (inverse_laws ++ Rigid ∷ []) (fault.Law c.in_err-check_rigid.field-0.0) c.in_ok-derived.ensures.told.0
    (fault_next symbols inverse_laws (Rigid ∷ []) (fault.Law c.in_err-check_rigid.field-0.0) c.in_ok-check_inverses.ensures found)))

pub returns : goal.returns
returns g c =
    let symbols = draft_symbols (g.R.StarRing.ring c.args.draft.now.ring) g.R.StarRing.held c.args.draft.now in
    let last = none_both symbols inverse_laws (Rigid ∷ []) c.in_ok-check_inverses.ensures (none_alone symbols Rigid c.in_ok-check_rigid.ensures) in (
      none_both symbols symbol_laws (derive_laws ++ inverse_laws ++ Rigid ∷ []) c.in_ok-check_symbols.ensures
          (none_both symbols derive_laws (inverse_laws ++ Rigid ∷ []) c.in_ok-derived.ensures.told.0 last),
      c.in_ok-derived.ensures.told.1,
    )
