-- States of the engine, as the stated evaluation sees them.
use Rattle.std.specs.Prelude.{◌≡◌, ◌<◌, ◌≤◌, ℕ, length, All}
use Rattle.ring_laws.specs.Ring.{Ring}
use Rattle.symbol_table.specs.Symbols.{Symbols}
use Rattle.tree_shapes.specs.declared.limits.TheConstants.{STRAND_LIMIT}
use Rattle.comb_run.specs.Entries.{vector_of, AreEntries}
use Rattle.comb_run.specs.Evaluated.{State}
use Rattle.comb_run.specs.declared.state.CombState.{CombState}

-- the strands, and the vector of the entries over them
abbrev pub state_of : {R E : Type 0} → Ring E → CombState R E → State E
state_of r s = (s.strands.items, vector_of r s.strands.items s.vector)

-- A state over n strands with labels below the count: its entries are those of a vector over them.
pub record IsState {R E : Type 0} (c : Symbols E) (n : ℕ) (s : CombState R E) : Type 0 where
  pub some : 0 < c.count
  pub long : length s.strands.items ≡ n
  pub few : n ≤ STRAND_LIMIT
  pub labels : All (λ s. s < c.count) s.strands.items
  pub entries : AreEntries c s.strands.items s.vector
