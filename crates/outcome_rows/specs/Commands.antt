-- What a run asks of its commands.
use Rattle.std.specs.Prelude.{◌≡◌, ◌<◌, ◌^◌, Bool, true, ℕ, List, [], length}
use Rattle.std.specs.List.{AllByRecursion}
use Rattle.tree_shapes.specs.Labelled.{size}
use Rattle.program_text.specs.Letters.{IsTestOf, gap_of, letters, measurements}
use Rattle.program_text.specs.Program.{Program}
use Rattle.program_text.specs.WellFormed.{IsProgram, commands_in}
use Rattle.program_text.specs.declared.plan.Command.{Command}
use Rattle.word_runs.specs.Told.{Told, IsGap}
use Rattle.run_laws.specs.Timely.{is_timely}

-- Commands that an engine may run: at gaps of its strands, each test one of a measurement that was made before, and not too
-- many to be counted.
pub record AreRunnable {M T : Type 0} (e : Told M T) (commands : List Command) : Type 0 where
  pub gaps : AllByRecursion (λ l. IsGap e (gap_of l)) (letters 0 commands)
  pub tests : AllByRecursion (IsTestOf (measurements commands)) commands
  pub few : length commands < 2 ^ 31
  pub timely : is_timely [] (letters 0 commands) ≡ true

-- The commands of a well formed program are such, where the engine has the strands of its start.
abbrev pub ProgramsAreRunnable : {M T : Type 0} → Told M T → Type 0
ProgramsAreRunnable e =
    (fuse : ℕ → ℕ → ℕ → Bool) (count : ℕ) (p : Program) → e.strands ≡ size p.start → IsProgram fuse count p → AreRunnable e (commands_in p.sites)
