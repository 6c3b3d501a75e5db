-- What braids and measurements make of the weight of a vector.
use Rattle.std.specs.Prelude.{◌≡◌, ℕ, ◌<◌, List, length}
use Rattle.ring_laws.specs.Sums.{total}
use Rattle.symbol_table.specs.Symbols.{Symbols}
use Rattle.comb_laws.specs.Operators.{swapped, braided, projected, weight}
use Rattle.comb_laws.specs.Paths.{Vector}
use Rattle.program_text.specs.declared.plan.Sign.{Sign}

-- A braid of either sign at any gap keeps the weight of every vector.
abbrev pub BraidsKeepWeight : {E : Type 0} → Symbols E → Type 0
BraidsKeepWeight {E} c =
    (strands : List ℕ) (v : Vector E) (sign : Sign) (k : ℕ) → 0 < k → k < length strands
    → weight c (swapped strands k) (braided c strands sign k v) ≡ weight c strands v

-- The charges at any gap share the weight of every vector: those of its projections make it up.
abbrev pub ChargesShareWeight : {E : Type 0} → Symbols E → Type 0
ChargesShareWeight {E} c =
    (strands : List ℕ) (v : Vector E) (k : ℕ) → 0 < k → k < length strands
    → total c.ring c.count (λ q. weight c strands (projected c strands k q v)) ≡ weight c strands v
