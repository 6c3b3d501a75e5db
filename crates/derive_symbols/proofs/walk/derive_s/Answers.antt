use Rattle.std.proofs.Common.{sym, ◌∙◌}
use Rattle.std.specs.Prelude.{slice_index}
use Rattle.symbol_table.specs.Draft.{given}
use Rattle.symbol_table.specs.declared.law.Law.TheVariants.{DeriveS}
use Rattle.derive_symbols.proofs.FillLemmas.{no_stop, put_s_fills}
use Rattle.derive_symbols.proofs.walk.derive_s.Goals as goal

pub returns-in-Ok-put_s : goal.returns-in-Ok-put_s
returns-in-Ok-put_s g c =
    let i = c.as_slice-labels.result.now in
    let put = put_s_fills (g.R.StarRing.ring c.args.draft.now.ring) g.R.StarRing.held (given c.args.draft.now) c.args.derived.now c.put_s.new.self
    (slice_index i 0) (slice_index i 1) (slice_index i 2) c.in-Ok.value
    (rw c.rules.ensures at (sym c.allows.ensures ∙ c.if-not-allows.false)) c.in-Ok.ensures.value c.in-Ok-put_s.ensures.ok c.in-Ok-put_s.ensures.puts in
    rw (← c.as_slice-labels.ensures.value) (no_stop _ DeriveS i _ c.in-Ok.value c.in-Ok.ensures.value, put.0, put.1)
