use Rattle.std.proofs.Common.{◌≡◌, ◌<◌, take, length}
use Rattle.std.specs.Prelude.{All}
use Rattle.symbol_table.specs.Category.{draft_symbols}
use Rattle.recouple.specs.Targets.{keys_of, targets_of}
use Rattle.recouple.proofs.sources.sources_of.Given as goal

-- the sources from the old keys so far
abbrev pub invariant-loop-place : goal.invariant-loop-place
invariant-loop-place g l =
    let c = draft_symbols (g.R.StarRing.ring l.category.ring) g.R.StarRing.held l.category in
    record {
      keys : keys_of l.rotation l.amps l.sources.items ≡ targets_of c l.strands l.rotation (take l.place l.amps);
      places : All (λ s. s.place < length l.amps) l.sources.items;
    }
