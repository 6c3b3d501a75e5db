use Rattle.std.proofs.Common.{sym, ◌∙◌}
use Rattle.std.specs.Prelude.{slice_index}
use Rattle.symbol_table.specs.Draft.{given}
use Rattle.symbol_table.specs.declared.law.Law.TheVariants.{DeriveH}
use Rattle.derive_symbols.proofs.FillLemmas.{no_stop, put_fills}
use Rattle.derive_symbols.proofs.walk.derive_h.Goals as goal

pub returns-in-Ok-put_h : goal.returns-in-Ok-put_h
returns-in-Ok-put_h g c =
    let i = c.as_slice-labels.result.now in
    let put = put_fills (g.R.StarRing.ring c.args.draft.now.ring) g.R.StarRing.held (given c.args.draft.now) c.args.derived.now c.put_h.new.self
    (slice_index i 0) (slice_index i 1) (slice_index i 2) (slice_index i 3) (slice_index i 5) (slice_index i 4) c.in-Ok.value
    (rw c.rules.ensures at (sym c.is_admissible.ensures ∙ c.if-not-is_admissible.false)) c.in-Ok.ensures.value c.in-Ok-put_h.ensures.ok c.in-Ok-put_h.ensures.puts in
    rw (← c.as_slice-labels.ensures.value) (no_stop _ DeriveH i _ c.in-Ok.value c.in-Ok.ensures.value, put.0, put.1)
