-- What a check of shapes answers.
use Rattle.std.specs.Prelude.{◌≡◌, Bool, true, false, Option, Some, None, Result, Ok, Err, ⊤}
use Rattle.symbol_table.specs.declared.law.Event.{Event}
use Rattle.symbol_table.specs.declared.law.Kind.{Kind}
use Rattle.symbol_table.specs.declared.law.Kind.TheVariants.{Fails, Overflow}
use Rattle.kept_values.specs.declared.kept.Stop.{Stop}
use Rattle.kept_values.specs.declared.kept.Stop.TheVariants as stop
use Rattle.shape_check.specs.declared.ShapeFault.{ShapeFault}
use Rattle.shape_check.specs.declared.ShapeFault.TheVariants as fault

-- a fault is the event that is stated; want of memory is free
abbrev pub IsFault : ShapeFault → Option Event → Type 0
IsFault (fault.Law event) stated = stated ≡ Some event
IsFault fault.Memory stated = ⊤

-- what is answered: no event is stated, or a fault
abbrev pub Passes : {A : Type 0} → Result A ShapeFault → Option Event → Type 0
Passes (Ok x) stated = stated ≡ None
Passes (Err found) stated = IsFault found stated

-- whether both sides are equal, as what is wrong; free for want of memory
abbrev pub Judges : Result Bool Stop → Option Kind → Type 0
Judges (Ok true) kind = kind ≡ None
Judges (Ok false) kind = kind ≡ Some Fails
Judges (Err stop.TooLarge) kind = kind ≡ Some Overflow
Judges (Err stop.Memory) kind = ⊤
