-- What the engine on trees tells: raises, exchanges and parts of states, evaluated.
use Rattle.std.specs.Prelude.{◌≡◌, ℕ, ◌-◌, ◌==◌, Bool, true, ◌&&◌, not, if◌then◌else◌, List, [], map, length, Option, Some, None, is_some}
use Rattle.std.specs.List.{filter, list_all}
use Rattle.symbol_table.specs.Symbols.{Symbols}
use Rattle.tree_shapes.specs.Outlines.{Outline, size, raise_at}
use Rattle.tree_shapes.specs.Settling.{is_pair_at, settle_gaps}
use Rattle.program_text.specs.Form.{is_gap}
use Rattle.word_runs.specs.Told.{Told}
use Rattle.word_runs.specs.declared.engine.Step.{Step}
use Rattle.word_runs.specs.declared.engine.Step.TheVariants.{Raise, Exchange}
use Rattle.comb_laws.specs.Plans.{words}
use Rattle.recouple.specs.States.{State, IsStateOf, raise_of, stated_raise}
use Rattle.braid_act.specs.Exchanges.{exchange_fits, exchanged}
use Rattle.charge_project.specs.Splits.{parts_below}

-- the keys with a label below the count for each gap of n strands, in their order, whose number isn't zero, each with its
-- number
abbrev pub entries_of : {E : Type 0} → Symbols E → ℕ → (List ℕ → E) → List (List ℕ × E)
entries_of c n v = filter (λ e. not (c.held.is_zero e.1)) (map (λ key. (key, v key)) (words c.count (n - 1)))

-- whether each item of a raise of the node at gap k fits, at each such key
abbrev pub raise_fits : {E : Type 0} → Symbols E → ℕ → State E → Bool
raise_fits c k s = list_all (λ key. is_some (stated_raise c k s key)) (words c.count (length s.strands - 1))

-- The state after the node at gap k was raised: the same strands on the raised tree, and the raised amplitudes that aren't
-- zero.
abbrev pub raised_state : {E : Type 0} → Symbols E → ℕ → State E → State E
raised_state c k s = record {
  strands = s.strands;
  shape = raise_at k s.shape 0;
  amps = entries_of c (length s.strands) (raise_of c k s);
}

-- what a step makes of a state; none where an item doesn't fit
abbrev pub stepped_at : {E : Type 0} → Symbols E → Step → State E → Option (State E)
stepped_at c (Raise k) s = if raise_fits c k s then Some (raised_state c k s) else None
stepped_at c (Exchange k sign) s = if exchange_fits c sign k s then Some (exchanged c sign k s) else None

-- What the engine on trees of n strands tells. A step changes the tree only by a raise, and a measurement makes no item
-- that has to fit. On a tree of another number of strands, which no state of the engine has, nothing is raised and every
-- gap counts as a pair.
abbrev pub tree_told : {E : Type 0} → Symbols E → ℕ → Told (State E) Outline
tree_told c n = record {
  strands = n;
  shape = λ s. s.shape;
  turned = λ k t. raise_at k t 0;
  path = λ k t. if size t == n then settle_gaps t k else [];
  is_pair = λ k t. is_gap n k && (if size t == n then is_pair_at t k else true);
  stepped = stepped_at c;
  parts = λ k s. Some (parts_below k s c.count);
  entries = λ s. length s.amps;
}

-- A state of the category over n strands.
pub record IsTreeState {E : Type 0} (c : Symbols E) (n : ℕ) (s : State E) : Type 0 where
  pub of : IsStateOf c s
  pub long : length s.strands ≡ n
