use Rattle.symbol_table.specs.Category.{draft_symbols}
use Rattle.shape_check.proofs.TableLemmas.{table_grown}
use Rattle.shape_check.proofs.table.Table.sum.Goals as goal

pub invariant_of-self : goal.invariant_of-self
invariant_of-self g c =
    let t = c.self.inside in
    let symbols = draft_symbols (g.R.StarRing.ring t.draft.now.ring) g.R.StarRing.held t.draft.now in
    table_grown symbols t.draft.now t.kept c.sum.new.self t.f.items t.r.items t.s.items c.sum.ensures.ring c.sum.ensures.grows c.self.invariant
