-- What the program answers: a status, and what is written.
use Rattle.std.specs.Prelude.{ℕ, List}
use Rattle.anyon_app.specs.declared.status.Status.{Status}
use Rattle.anyon_app.specs.declared.status.Status.TheVariants.{Done, Refused, Usage, ReadFault, WriteFault, Limit, NoMemory}

-- what a command answers: its status, and all that it writes
pub record Reply : Type 0 where
  pub status : Status
  pub bytes : List ℕ

-- the whole of a report
abbrev pub done : List ℕ → Reply
done bytes = record { status = Done; bytes = bytes }

-- the line of a refusal
abbrev pub refused : List ℕ → Reply
refused bytes = record { status = Refused; bytes = bytes }

-- the line of a limit
abbrev pub limited : List ℕ → Reply
limited bytes = record { status = Limit; bytes = bytes }

-- the exit code of a status
abbrev pub code_of : Status → ℕ
code_of Done = 0
code_of Refused = 1
code_of Usage = 2
code_of ReadFault = 3
code_of WriteFault = 4
code_of Limit = 5
code_of NoMemory = 6
