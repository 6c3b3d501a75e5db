use Rattle.std.proofs.Common.{◌≡◌, true, map, take}
use Rattle.std.specs.List.{list_all}
use Rattle.symbol_table.specs.Category.{draft_symbols}
use Rattle.braid_act.specs.Exchanges.{exchange_at}
use Rattle.braid_act.proofs.StateLemmas.{times}
use Rattle.braid_act.proofs.act.exchange_amps.Given as goal

-- the amplitudes of the keys so far, whose products fit
abbrev pub invariant-loop-place : goal.invariant-loop-place
invariant-loop-place g l =
    let c = draft_symbols (g.R.StarRing.ring l.category.ring) g.R.StarRing.held l.category in
    let symbol = exchange_at c l.sign l.state.strands l.k in
    record {
      made : l.new ≡ map (times symbol c.ring.product) (take l.place l.amps);
      fits : list_all (λ e. c.ring.product_fits (symbol e.0) e.1) (take l.place l.amps) ≡ true;
    }
