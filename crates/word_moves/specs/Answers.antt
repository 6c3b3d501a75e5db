-- What functions of the code answer.
use Rattle.std.specs.Prelude.{◌≡◌, Result, Ok, Err}
use Rattle.word_moves.specs.declared.fault.MovesFault.{MovesFault}
use Rattle.word_moves.specs.declared.fault.MovesFault.TheVariants.{At, Memory}
use Rattle.word_moves.specs.Reading.{Fault}

-- A fault is what is stated, and want of memory is free.
abbrev pub Fails : {Y : Type 0} → MovesFault → Result Y Fault → Type 0
Fails Memory stated = Unit {0}
Fails (At line cause) stated = stated ≡ Err (record { line = line; cause = cause })

-- What is stated, unless memory runs out.
abbrev pub Told : {X Y : Type 0} → (X → Y) → Result X MovesFault → Result Y Fault → Type 0
Told view (Ok x) stated = stated ≡ Ok (view x)
Told view (Err fault) stated = Fails fault stated
