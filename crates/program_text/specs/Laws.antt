-- What makes the reading of programs right.
use Rattle.std.specs.Prelude.{◌≡◌, ℕ, Bool, List, length, Ok}
use Rattle.fusion_rules.specs.Names.{AreNames}
use Rattle.program_text.specs.Program.{Program}
use Rattle.program_text.specs.Grammar.{program_in}
use Rattle.program_text.specs.WellFormed.{IsProgram}
use Rattle.program_text.specs.Written.{written}

-- what a text says is well formed
abbrev pub AllWellFormed : Type 0
AllWellFormed = (names : List (List ℕ)) (fuse : ℕ → ℕ → ℕ → Bool) (bytes : List ℕ) (p : Program) → program_in names fuse bytes ≡ Ok p → IsProgram fuse (length names) p

-- the canonical text of a well formed program is read to this program
abbrev pub ProgramsAgain : Type 0
ProgramsAgain = (names : List (List ℕ)) (fuse : ℕ → ℕ → ℕ → Bool) (p : Program) → AreNames names → IsProgram fuse (length names) p → program_in names fuse (written names p) ≡ Ok p

-- two well formed programs that have one canonical text are one
abbrev pub ProgramsOneText : Type 0
ProgramsOneText = (names : List (List ℕ)) (fuse : ℕ → ℕ → ℕ → Bool) (p q : Program)
    → AreNames names → IsProgram fuse (length names) p → IsProgram fuse (length names) q → written names p ≡ written names q → p ≡ q
