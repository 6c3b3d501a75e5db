-- States after an exchange at a pair.
use Rattle.std.specs.Prelude.{◌≡◌, ℕ, ◌+◌, ◌-◌, ◌<◌, Bool, true, false, List, IsTrue, length, map, slice_index}
use Rattle.std.specs.List.{list_all}
use Rattle.symbol_table.specs.Symbols.{Symbols}
use Rattle.program_text.specs.declared.plan.Sign.{Sign}
use Rattle.tree_shapes.specs.Outlines.{size}
use Rattle.tree_shapes.specs.Settling.{is_pair_at}
use Rattle.amp_store.specs.Amplitudes.{AreAmplitudes}
use Rattle.comb_laws.specs.Operators.{exchange_by, strand, swapped}
use Rattle.path_laws.specs.Moves.{opposite}
use Rattle.recouple.specs.States.{State, IsStateOf}

-- R(a,b,q), or S(a,b,q) where the exchange is negative, with the labels a and b of the strands k and k + 1 and the label
-- q of the node at gap k
abbrev pub exchange_at : {E : Type 0} → Symbols E → Sign → List ℕ → ℕ → List ℕ → E
exchange_at c sign strands k key = exchange_by c sign (strand strands k) (strand strands (k + 1)) (slice_index key (k - 1))

-- The state after an exchange at gap k: each amplitude is multiplied by that, and the strands k and k + 1 are swapped.
abbrev pub exchanged : {E : Type 0} → Symbols E → Sign → ℕ → State E → State E
exchanged c sign k s = record {
  strands = swapped s.strands k;
  shape = s.shape;
  amps = map (λ e. (e.0, c.ring.product (exchange_at c sign s.strands k e.0) e.1)) s.amps;
}

-- whether each of these products fits
abbrev pub exchange_fits : {E : Type 0} → Symbols E → Sign → ℕ → State E → Bool
exchange_fits c sign k s = list_all (λ e. c.ring.product_fits (exchange_at c sign s.strands k e.0) e.1) s.amps

-- An exchange and then the one of the other sign at the same pair leave a state as it was.
abbrev pub ExchangesBack : {E : Type 0} → Symbols E → Type 0
ExchangesBack {E} c =
    (s : State E) (k : ℕ) (sign : Sign) → IsStateOf c s → AreAmplitudes c.held s.amps → 0 < k → k < size s.shape → is_pair_at s.shape k ≡ true
    → exchanged c (opposite sign) k (exchanged c sign k s) ≡ s

-- What an exchange asks of a key and its amplitude: a label at the gap, to which the strands k and k + 1 fuse, and a
-- number of the ring that isn't zero.
pub record HasEntry {E : Type 0} (c : Symbols E) (s : State E) (k : ℕ) (e : List ℕ × E) : Type 0 where
  pub long : k - 1 < length e.0
  pub fuses : c.fuse (slice_index s.strands (k - 1)) (slice_index s.strands k) (slice_index e.0 (k - 1)) ≡ true
  pub member : IsTrue (c.ring.member e.1)
  pub some : c.held.is_zero e.1 ≡ false
