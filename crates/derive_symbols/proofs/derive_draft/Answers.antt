use Rattle.std.proofs.lemmas.Result.{err_from_is_err_and}
use Rattle.symbol_table.specs.Draft.{given}
use Rattle.derive_symbols.proofs.DeriveLemmas.{labels_of, h_stops, s_stops, both_derive}
use Rattle.derive_symbols.proofs.derive_draft.Goals as goal

pub returns-in_err-derive_more : goal.returns-in_err-derive_more
returns-in_err-derive_more g c =
    let p = err_from_is_err_and c.from_residual.result c.from_residual.ensures.1 in
    rw (p.1, p.2)
    record { told = h_stops (g.R.StarRing.ring c.args.draft.now.ring) g.R.StarRing.held (given c.args.draft.now) _ (rw c.new.ensures at c.in_err-derive_more.ensures) }

pub returns-in_err-derive_more-2 : goal.returns-in_err-derive_more-2
returns-in_err-derive_more-2 g c =
    let p = err_from_is_err_and c.from_residual-in_err-derive_more-2.result c.from_residual-in_err-derive_more-2.ensures.1 in
    let filled = rw c.new.ensures at c.in_ok-derive_more.ensures in
    rw (p.1, p.2)
    record { told = s_stops (g.R.StarRing.ring c.args.draft.now.ring) g.R.StarRing.held (given c.args.draft.now) _ filled.0 (rw c.new-2.ensures at c.in_err-derive_more-2.ensures) }

pub returns : goal.returns
returns g c =
    record {
      told = both_derive (g.R.StarRing.ring c.args.draft.now.ring) g.R.StarRing.held (given c.args.draft.now) (tt {0}) (tt {0}) c.new-derived.result c.derive_more.new.derived c.derive_more-2.new.derived (labels_of c.args.draft.now.rules)
          (rw c.new.ensures at c.in_ok-derive_more.ensures) (rw c.new-2.ensures at c.in_ok-derive_more-2.ensures);
    }
