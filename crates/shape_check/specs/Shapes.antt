-- The laws of shapes, each with its evaluation.
use Rattle.std.specs.Prelude.{ℕ, List, Option}
use Rattle.ring_laws.specs.Stated.{steps}
use Rattle.symbol_table.specs.Symbols.{Symbols}
use Rattle.symbol_table.specs.Laws.{at6, at9}
use Rattle.symbol_table.specs.declared.law.Law.{Law}
use Rattle.symbol_table.specs.declared.law.Law.TheVariants as law
use Rattle.symbol_table.specs.declared.law.Kind.{Kind}
use Rattle.law_events.specs.Sides.{judged, hexagon_left, hexagon_step, pentagon_left, pentagon_step}
use Rattle.shape_check.specs.declared.shape.Exchange.{Exchange}
use Rattle.shape_check.specs.declared.shape.Exchange.TheVariants.{Positive, Negative}
use Rattle.shape_check.specs.declared.shape.Shape.{Shape}
use Rattle.shape_check.specs.declared.shape.Shape.TheVariants as shape

-- the law of a shape
abbrev pub law_of : Shape → Law
law_of shape.Pentagon = law.Pentagon
law_of (shape.Hexagon Positive) = law.HexagonOne
law_of (shape.Hexagon Negative) = law.HexagonTwo

-- the symbol of an exchange: R, or S
abbrev pub symbol_of : {E : Type 0} → Symbols E → Exchange → ℕ → ℕ → ℕ → E
symbol_of c Positive = c.r
symbol_of c Negative = c.s

module _ {E : Type 0} (c : Symbols E) where
  -- the left side at an index
  abbrev pub left_at : Shape → List ℕ → Option E
  left_at shape.Pentagon = at9 (pentagon_left c)
  left_at (shape.Hexagon exchange) = at6 (hexagon_left c (symbol_of c exchange))

  -- the sum with the term of a label
  abbrev pub step_at : Shape → List ℕ → ℕ → E → Option E
  step_at shape.Pentagon = at9 (pentagon_step c)
  step_at (shape.Hexagon exchange) = at6 (hexagon_step c (symbol_of c exchange))

  -- the right side
  abbrev pub right_at : Shape → List ℕ → Option E
  right_at shape index = steps (step_at shape index) 0 c.count c.ring.zero

  -- what the law of a shape tells at an index
  abbrev pub told_at : Shape → List ℕ → Option Kind
  told_at shape index = judged c.held (left_at shape index) (right_at shape index)
