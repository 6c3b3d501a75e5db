use Rattle.std.proofs.Common.{◌≡◌, length}
use Rattle.symbol_table.specs.Category.{draft_symbols}
use Rattle.kept_values.specs.Kept.{Grows}
use Rattle.shape_check.specs.Table.{AreFirst, vertex_at}
use Rattle.shape_check.proofs.table.vertex_numbers.Given as goal

-- the first places have their numbers
abbrev pub invariant-loop-k : goal.invariant-loop-k
invariant-loop-k g l =
    let over = g.R.StarRing.ring l.draft.ring in
    record {
      ring : l.kept.ring ≡ l.draft.ring;
      grows : Grows l.initial.kept.values l.kept.values;
      count : length l.numbers.items ≡ l.k;
      first : AreFirst over l.kept.values (vertex_at (draft_symbols over g.R.StarRing.held l.draft) l.exchange) l.numbers.items;
    }
