-- What a check of laws in their order answers.
use Rattle.std.specs.Prelude.{◌≡◌, List, Option, Some, None, Result, Ok, Err}
use Rattle.ring_laws.specs.Ring.{Ring, Held}
use Rattle.symbol_table.specs.Draft.{DraftValue, given}
use Rattle.symbol_table.specs.Derived.{DerivedValue, HoldsSymbols}
use Rattle.symbol_table.specs.Category.{draft_symbols}
use Rattle.symbol_table.specs.declared.law.Law.{Law}
use Rattle.symbol_table.specs.declared.law.Event.{Event}
use Rattle.law_events.specs.Sides.{first_in}
use Rattle.derive_symbols.specs.declared.WeightFault.{WeightFault}
use Rattle.derive_symbols.specs.declared.WeightFault.TheVariants as fault

-- a fault is the event that is stated; want of memory is free
abbrev pub IsFault : WeightFault → Option Event → Type 0
IsFault (fault.Law event) stated = stated ≡ Some event
IsFault fault.Memory stated = Unit {0}

-- what a check of laws answers: H and S at every admissible index where the laws have no event, or their first event
abbrev pub Tells : {R E : Type 0} → Ring E → Held E → DraftValue R E → List Law → Result (DerivedValue E) WeightFault → Type 0
Tells ring held draft laws (Ok derived) = (first_in (draft_symbols ring held draft) laws ≡ None) × HoldsSymbols ring (given draft) derived
Tells ring held draft laws (Err fault) = IsFault fault (first_in (draft_symbols ring held draft) laws)
