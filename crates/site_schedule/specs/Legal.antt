-- Legal schedules.
use Rattle.std.specs.Prelude.{◌≡◌, ℕ, Bool, true, List, []}
use Rattle.program_text.specs.Program.{Program}
use Rattle.program_text.specs.WellFormed.{IsProgram}
use Rattle.program_text.specs.declared.letter.Letter.{Letter}
use Rattle.run_laws.specs.Programs.{commands_of}
use Rattle.run_laws.specs.Schedules.{site_letters}
use Rattle.run_laws.specs.Timely.{is_timely}
use Rattle.run_laws.specs.Turns.{turns, IsSchedule}

-- A program that is well formed over some category.
pub record IsWellFormed (p : Program) : Type 0 where
  pub fuse : ℕ → ℕ → ℕ → Bool
  pub count : ℕ
  pub program : IsProgram fuse count p

-- the letters of each site of a program, where the places of measurements count on from site to site
abbrev pub letters_in : Program → List (List Letter)
letters_in p = site_letters 0 (commands_of p.sites)

-- A legal schedule: each site stands in it as often as it has commands, and each outcome is measured before it is tested.
pub record IsLegal (p : Program) (schedule : List ℕ) : Type 0 where
  pub whole : IsSchedule (letters_in p) schedule
  pub timely : is_timely [] (turns (letters_in p) schedule) ≡ true
