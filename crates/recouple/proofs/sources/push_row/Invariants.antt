use Rattle.std.proofs.Common.{◌≡◌, ◌<◌, ◌-◌, ◌++◌, ℕ, List, slice_set}
use Rattle.std.specs.Prelude.{All}
use Rattle.symbol_table.specs.Category.{draft_symbols}
use Rattle.recouple.specs.Rotations.{after}
use Rattle.recouple.specs.Targets.{key_at, keys_of, row_from}
use Rattle.recouple.proofs.sources.push_row.Given as goal

-- the changed key is one of the row but for its label at the parent, and there are the sources of the labels so far
abbrev pub invariant-loop-to : goal.invariant-loop-to
invariant-loop-to g l =
    let c = draft_symbols (g.R.StarRing.ring l.category.ring) g.R.StarRing.held l.category in
    record {
      changed : (u : ℕ) → slice_set l.changed.items (l.rotation.parent - 1) u ≡ after l.rotation l.key.items u;
      keys : (es : List (List ℕ × g.row.R-Elem.Denot)) → key_at es l.place ≡ l.key.items
          → keys_of l.rotation es l.sources.items ≡ keys_of l.rotation es l.fn.sources.items ++ row_from c l.strands l.rotation 0 l.to l.key.items;
      places : (n : ℕ) → l.place < n → All (λ s. s.place < n) l.fn.sources.items → All (λ s. s.place < n) l.sources.items;
    }
