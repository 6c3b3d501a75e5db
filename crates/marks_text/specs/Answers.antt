-- What functions of the code answer.
use Rattle.std.specs.Prelude.{◌≡◌, Result, Ok, Err}
use Rattle.marks_text.specs.declared.fault.MarksCause.{MarksCause}
use Rattle.marks_text.specs.declared.fault.MarksFault.{MarksFault}
use Rattle.marks_text.specs.declared.fault.MarksFault.TheVariants.{At, Memory}
use Rattle.marks_text.specs.Reading.{Fault}

-- A line: what is stated, as functions tell it that take no memory.
abbrev pub Tells : {X Y : Type 0} → (X → Y) → Result X MarksCause → Result Y MarksCause → Type 0
Tells view (Ok x) stated = stated ≡ Ok (view x)
Tells view (Err cause) stated = stated ≡ Err cause

-- A fault is what is stated, and want of memory is free.
abbrev pub Fails : {Y : Type 0} → MarksFault → Result Y Fault → Type 0
Fails Memory stated = Unit {0}
Fails (At line cause) stated = stated ≡ Err (record { line = line; cause = cause })

-- What is stated, unless memory runs out.
abbrev pub Told : {X Y : Type 0} → (X → Y) → Result X MarksFault → Result Y Fault → Type 0
Told view (Ok x) stated = stated ≡ Ok (view x)
Told view (Err fault) stated = Fails fault stated
