-- The two exchanges of neighbours, each with its symbol.
use Rattle.std.specs.Prelude.{ℕ, List, [], ◌∷◌, Option}
use Rattle.symbol_table.specs.Symbols.{Symbols}
use Rattle.symbol_table.specs.Laws.{at6}
use Rattle.symbol_table.specs.declared.law.Law.{Law}
use Rattle.symbol_table.specs.declared.law.Law.TheVariants.{HexagonOne, HexagonTwo}
use Rattle.symbol_table.specs.declared.law.Kind.{Kind}
use Rattle.law_events.specs.Sides.{hexagon, hexagon_left, hexagon_right, hexagon_step}
use Rattle.hexagon_check.specs.declared.exchange.Exchange.{Exchange}
use Rattle.hexagon_check.specs.declared.exchange.Exchange.TheVariants.{Positive, Negative}

-- the two hexagons, in the order of the check
abbrev pub hexagon_laws : List Law
hexagon_laws = HexagonOne ∷ HexagonTwo ∷ []

-- the symbol of an exchange: R, or S
abbrev pub symbol_of : {E : Type 0} → Symbols E → Exchange → ℕ → ℕ → ℕ → E
symbol_of c Positive = c.r
symbol_of c Negative = c.s

module _ {E : Type 0} (c : Symbols E) (exchange : Exchange) where
  -- the evaluation of its hexagon at an index: the left side, the sum with the term of a label, the right side
  abbrev pub left_at : List ℕ → Option E
  left_at = at6 (hexagon_left c (symbol_of c exchange))

  abbrev pub step_at : List ℕ → ℕ → E → Option E
  step_at = at6 (hexagon_step c (symbol_of c exchange))

  abbrev pub right_at : List ℕ → Option E
  right_at = at6 (hexagon_right c (symbol_of c exchange))

  -- what its hexagon tells at an index
  abbrev pub told_at : List ℕ → Option Kind
  told_at = at6 (hexagon c (symbol_of c exchange))
