-- What functions of the code answer, and what they keep.
use Rattle.std.specs.Prelude.{◌≡◌, ◌≤◌, ◌+◌, length, Result, Ok, Err}
use Rattle.program_text.specs.Program.{Program}
use Rattle.program_text.specs.declared.form.TheConstants.{COMMAND_LIMIT}
use Rattle.tree_shapes.specs.declared.limits.TheConstants.{STRAND_LIMIT}
use Rattle.run_laws.specs.Turns.{in_text}
use Rattle.site_schedule.specs.declared.fault.ScheduleFault.{ScheduleFault}
use Rattle.site_schedule.specs.declared.fault.ScheduleFault.TheVariants.{Line, Header, UnknownSite, TooMany, Early, Unfinished, Memory}
use Rattle.site_schedule.specs.declared.progress.Progress.{Progress}
use Rattle.site_schedule.specs.Legal.{letters_in}
use Rattle.site_schedule.specs.Queues.{AreMarks, all_left, left_behind}
use Rattle.site_schedule.specs.Reading.{known_behind}

-- A fault is what is stated, and want of memory is free.
abbrev pub Fails : {Y : Type 0} → ScheduleFault → Result Y ScheduleFault → Type 0
Fails Memory stated = Unit {0}
Fails (Line why) stated = stated ≡ Err (Line why)
Fails (Header line) stated = stated ≡ Err (Header line)
Fails (UnknownSite turn) stated = stated ≡ Err (UnknownSite turn)
Fails (TooMany turn) stated = stated ≡ Err (TooMany turn)
Fails (Early turn) stated = stated ≡ Err (Early turn)
Fails (Unfinished site) stated = stated ≡ Err (Unfinished site)

-- What is stated, unless memory runs out.
abbrev pub Told : {X Y : Type 0} → (X → Y) → Result X ScheduleFault → Result Y ScheduleFault → Type 0
Told view (Ok x) stated = stated ≡ Ok (view x)
Told view (Err why) stated = Fails why stated

-- What is kept of the turns so far: what the sites have left, and which places are measured.
pub record IsBehind (p : Program) (progress : Progress) : Type 0 where
  pub left : all_left progress.queues.items ≡ left_behind (letters_in p) progress.turns.items
  pub marks : AreMarks progress.marks.items (known_behind (letters_in p) progress.turns.items)
  pub count : length progress.queues.items ≤ STRAND_LIMIT
  pub few : length progress.turns.items + length (in_text (all_left progress.queues.items)) ≤ COMMAND_LIMIT
