-- Answers of laws in their order.
use Rattle.std.proofs.Common.{◌≡◌, List, Option, Some, None, Result, Ok, Err, refl, sym, ◌∙◌, ap}
use Rattle.std.specs.Option.{option_or}
use Rattle.symbol_table.specs.Symbols.{Symbols}
use Rattle.symbol_table.specs.declared.law.Event.{Event}
use Rattle.symbol_table.specs.declared.law.Kind.{Kind}
use Rattle.law_events.specs.First.{event_of}
use Rattle.symbol_table.specs.declared.law.Law.TheVariants.{HexagonOne, HexagonTwo, Pentagon}
use Rattle.law_events.specs.Sides.{first_in, first_of, verdict}
use Rattle.hexagon_check.specs.Exchange.{hexagon_laws}
use Rattle.shape_check.specs.Order.{shape_laws}
use Rattle.shape_check.specs.declared.ShapeFault.{ShapeFault}
use Rattle.shape_check.specs.declared.ShapeFault.TheVariants as fault
use Rattle.shape_check.specs.declared.shape.Shape.{Shape}
use Rattle.shape_check.specs.Answers.{IsFault, Passes}
use Rattle.shape_check.specs.Shapes.{law_of, told_at}
use Rattle.shape_check.proofs.SideLemmas.{told_is}
use Rattle.std.specs.Prelude.{ℕ}

-- a fault of the first law is that of all
fault_first : (found : ShapeFault) (first rest : Option Event) → IsFault found first → IsFault found (option_or first rest)
fault_first (fault.Law event) first rest told = ap (λ o. option_or o rest) told
fault_first fault.Memory first rest told = tt

-- where the first law has no event, a fault of those behind it is that of all
fault_behind : (found : ShapeFault) (first rest : Option Event) → first ≡ None → IsFault found rest → IsFault found (option_or first rest)
fault_behind (fault.Law event) first rest none told = ap (λ o. option_or o rest) none ∙ told
fault_behind fault.Memory first rest none told = tt

no_event : (one two three : Option Event) → one ≡ None → two ≡ None → three ≡ None → option_or one (option_or two (option_or three None)) ≡ None
no_event one two three first second third = rw (first, second, third) refl

module _ {E : Type 0} (c : Symbols E) where
  -- a fault of the pentagon
  pub pentagon_fault : (found : ShapeFault) → IsFault found (first_of c Pentagon) → IsFault found (first_in c shape_laws)
  pentagon_fault found told = fault_first found (first_of c Pentagon) (first_in c hexagon_laws) told

  -- a fault of the first hexagon
  pub hexagon_fault : (found : ShapeFault) → first_of c Pentagon ≡ None → IsFault found (first_of c HexagonOne) → IsFault found (first_in c shape_laws)
  hexagon_fault found pentagon told =
      fault_behind found (first_of c Pentagon) (first_in c hexagon_laws) pentagon
      (fault_first found (first_of c HexagonOne) (option_or (first_of c HexagonTwo) None) told)

  -- the answer of the second hexagon
  pub last_told : (result : Result (Unit {0}) ShapeFault) → first_of c Pentagon ≡ None → first_of c HexagonOne ≡ None → Passes result (first_of c HexagonTwo) → Passes result (first_in c shape_laws)
  last_told (Ok x) pentagon hexagon told = no_event (first_of c Pentagon) (first_of c HexagonOne) (first_of c HexagonTwo) pentagon hexagon told
  last_told (Err found) pentagon hexagon told =
      fault_behind found (first_of c Pentagon) (first_in c hexagon_laws) pentagon
      (fault_behind found (first_of c HexagonOne) (option_or (first_of c HexagonTwo) None) hexagon (fault_first found (first_of c HexagonTwo) None told))

module _ {E : Type 0} (c : Symbols E) (shape : Shape) (index : List ℕ) where
  -- nothing is wrong at an index
  pub none_told : told_at c shape index ≡ None → event_of (law_of shape) index (verdict c (law_of shape) index) ≡ None
  none_told told = ap (event_of (law_of shape) index) (sym (told_is c shape index) ∙ told)

  -- something is
  pub some_told : (kind : Kind) → told_at c shape index ≡ Some kind
      → event_of (law_of shape) index (verdict c (law_of shape) index) ≡ Some (record { kind = kind; law = law_of shape; index = index })
  some_told kind told = ap (event_of (law_of shape) index) (sym (told_is c shape index) ∙ told)
