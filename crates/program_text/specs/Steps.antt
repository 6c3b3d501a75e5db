-- Steps of a reading, of which the first refusal decides.
use Rattle.std.specs.Prelude.{ℕ, Bool, true, false, Result, Ok, Err}
use Rattle.program_text.specs.declared.fault.ProgramCause.{ProgramCause}

-- a line that is refused, with its first cause
pub record Fault : Type 0 where
  pub line : ℕ
  pub cause : ProgramCause

infixl 10 ◌>>=◌
abbrev pub ◌>>=◌ : {A B E : Type 0} → Result A E → (A → Result B E) → Result B E
(Ok x) >>= f = f x
(Err e) >>= f = Err e

-- a cause, as the fault of a line
abbrev pub on_line : {A : Type 0} → ℕ → Result A ProgramCause → Result A Fault
on_line number (Ok x) = Ok x
on_line number (Err cause) = Err (record { line = number; cause = cause })

-- a cause unless a test holds
abbrev pub unless : Bool → ProgramCause → Result Unit ProgramCause
unless true cause = Ok tt
unless false cause = Err cause
