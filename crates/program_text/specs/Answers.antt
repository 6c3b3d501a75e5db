-- What functions of the code answer: what is stated, unless memory runs out.
use Rattle.std.specs.Prelude.{◌≡◌, ℕ, map, Result, Ok, Err}
use Rattle.line_text.specs.declared.fault.LineFault.{LineFault}
use Rattle.program_text.specs.declared.fault.ProgramCause.{ProgramCause}
use Rattle.program_text.specs.declared.fault.ProgramCause.TheVariants.{Line}
use Rattle.program_text.specs.declared.fault.ProgramFault.{ProgramFault}
use Rattle.program_text.specs.declared.fault.ProgramFault.TheVariants.{At, Memory}
use Rattle.program_text.specs.declared.fault.Refused.{Refused}
use Rattle.program_text.specs.declared.fault.Stop.{Stop}
use Rattle.program_text.specs.declared.fault.Stop.TheVariants.{Cause}
use Rattle.program_text.specs.declared.draft.Draft.{Draft}
use Rattle.program_text.specs.Program.{site_of, outcome_of}
use Rattle.program_text.specs.Steps.{Fault}
use Rattle.program_text.specs.Grammar.{SoFar}

-- A line: what is stated, as functions tell it that take no memory.
abbrev pub Tells : {X Y : Type 0} → (X → Y) → Result X ProgramCause → Result Y ProgramCause → Type 0
Tells view (Ok x) stated = stated ≡ Ok (view x)
Tells view (Err cause) stated = stated ≡ Err cause

-- The same of a line that is kept in memory.
abbrev pub LineFails : {Y : Type 0} → Stop → Result Y ProgramCause → Type 0
LineFails Stop.Memory stated = Unit {0}
LineFails (Cause cause) stated = stated ≡ Err cause

abbrev pub Says : {X Y : Type 0} → (X → Y) → Result X Stop → Result Y ProgramCause → Type 0
Says view (Ok x) stated = stated ≡ Ok (view x)
Says view (Err stop) stated = LineFails stop stated

-- Lines: what is stated, as functions tell it that take no memory.
abbrev pub fault_at : Refused → Fault
fault_at refused = record { line = refused.line; cause = refused.cause }

abbrev pub TellsLines : {X Y : Type 0} → (X → Y) → Result X Refused → Result Y Fault → Type 0
TellsLines view (Ok x) stated = stated ≡ Ok (view x)
TellsLines view (Err refused) stated = stated ≡ Err (fault_at refused)

-- The same of lines that are kept in memory.
abbrev pub Fails : {Y : Type 0} → ProgramFault → Result Y Fault → Type 0
Fails Memory stated = Unit {0}
Fails (At line cause) stated = stated ≡ Err (record { line = line; cause = cause })

abbrev pub Told : {X Y : Type 0} → (X → Y) → Result X ProgramFault → Result Y Fault → Type 0
Told view (Ok x) stated = stated ≡ Ok (view x)
Told view (Err fault) stated = Fails fault stated

abbrev pub refused_line : LineFault → Refused
refused_line fault = record { line = fault.line; cause = Line fault.cause }

abbrev pub lined_at : {X : Type 0} → ℕ → Result X ProgramCause → Result X Refused
lined_at line (Ok x) = Ok x
lined_at line (Err cause) = Err (record { line = line; cause = cause })

abbrev pub told_at : {X : Type 0} → ℕ → Result X Stop → Result X ProgramFault
told_at line (Ok x) = Ok x
told_at line (Err Stop.Memory) = Err Memory
told_at line (Err (Cause cause)) = Err (At line cause)

-- what a draft has of the lines so far
abbrev pub so_far : Draft → SoFar
so_far draft = record {
  earlier = map site_of draft.earlier.items;
  current = site_of draft.current;
  has_site = draft.has_site;
  outcomes = map outcome_of draft.outcomes.items;
  strands = draft.strands.items;
  commands = draft.commands;
  measured = draft.measured;
}
