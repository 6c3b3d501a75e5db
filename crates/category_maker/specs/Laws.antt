-- What the texts of a number say.
use Rattle.std.specs.Prelude.{◌≡◌, ℕ, ◌≤◌, Ok}
use Rattle.category_text.specs.Again.{ReadAgain}
use Rattle.program_text.specs.Grammar.{program_in}
use Rattle.program_text.specs.WellFormed.{IsProgram}
use Rattle.program_text.specs.Written.{written}
use Rattle.site_schedule.specs.Legal.{IsLegal}
use Rattle.site_schedule.specs.Reading.{schedule_of}
use Rattle.category_maker.specs.MadeCategory.{group_fuses, label_names, made_category}
use Rattle.category_maker.specs.MadeProgram.{made_program}
use Rattle.category_maker.specs.MadeSchedule.{made_schedule, made_turns}

-- the category text is read, to the root, the names, the rules and the symbols of the category
abbrev pub CategoriesRead : Type 0
CategoriesRead = (n : ℕ) → 2 ≤ n → n ≤ 12 → ReadAgain (made_category n)

-- the program is well formed over the category
abbrev pub ProgramsWellFormed : Type 0
ProgramsWellFormed = (n : ℕ) → 2 ≤ n → n ≤ 12 → IsProgram (group_fuses n) n (made_program n)

-- the program text is read over the category, to the program
abbrev pub ProgramsRead : Type 0
ProgramsRead = (n : ℕ) → 2 ≤ n → n ≤ 12 → program_in (label_names n) (group_fuses n) (written (label_names n) (made_program n)) ≡ Ok (made_program n)

-- the turns 0, 1, 0, 1 and so on are a legal schedule of the program
abbrev pub SchedulesLegal : Type 0
SchedulesLegal = (n : ℕ) → 2 ≤ n → n ≤ 12 → IsLegal (made_program n) made_turns

-- the schedule text is read for the program, to these turns
abbrev pub SchedulesRead : Type 0
SchedulesRead = (n : ℕ) → 2 ≤ n → n ≤ 12 → schedule_of (made_program n) made_schedule ≡ Ok made_turns
