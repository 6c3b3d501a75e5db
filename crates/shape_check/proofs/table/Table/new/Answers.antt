use Rattle.std.proofs.Common.{◌∙◌}
use Rattle.symbol_table.specs.Category.{draft_symbols}
use Rattle.shape_check.proofs.TableLemmas.{table_made}
use Rattle.shape_check.proofs.table.Table.new.Goals as goal

pub invariant_of-result : goal.invariant_of-result
invariant_of-result g c =
    let draft = c.args.draft.now in
    let symbols = draft_symbols (g.R.StarRing.ring draft.ring) g.R.StarRing.held draft in
    let same = c.in_ok-s.ensures.ring ∙ (c.in_ok-r.ensures.ring ∙ (c.in_ok-f.ensures.ring ∙ (c.in_ok-kept.ensures.ring ∙ c.ring.ensures))) in
    table_made symbols draft c.f_numbers.new.kept c.vertex_numbers.new.kept c.vertex_numbers-2.new.kept c.in_ok-f.f.items c.in_ok-r.r.items c.in_ok-s.s.items same
    c.in_ok-r.ensures.grows c.in_ok-s.ensures.grows c.in_ok-f.ensures.value c.in_ok-r.ensures.value c.in_ok-s.ensures.value
