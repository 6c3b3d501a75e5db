-- The text of a schedule.
use Rattle.std.specs.Prelude.{◌≡◌, ℕ, zero, suc, List, [], ◌∷◌, map, codes, Ok}
use Rattle.line_text.specs.Spelling.{spelled}
use Rattle.program_text.specs.Program.{Program, ProgramSite}
use Rattle.site_schedule.specs.Legal.{IsLegal, IsWellFormed}
use Rattle.site_schedule.specs.Reading.{schedule_of}

-- the name of a site, by its number
abbrev pub name_of_site : List ProgramSite → ℕ → List ℕ
name_of_site [] i = []
name_of_site (site ∷ sites) zero = site.name
name_of_site (site ∷ sites) (suc i) = name_of_site sites i

-- the header, and a line with a name for each turn
abbrev pub schedule_lines : Program → List ℕ → List (List (List ℕ))
schedule_lines p schedule = (codes "schedule" ∷ codes "1" ∷ []) ∷ map (λ i. name_of_site p.sites i ∷ []) schedule

-- Each legal schedule of a well formed program is read from its text.
abbrev pub SchedulesAgain : Type 0
SchedulesAgain = (p : Program) (schedule : List ℕ) → IsWellFormed p → IsLegal p schedule → schedule_of p (spelled (schedule_lines p schedule)) ≡ Ok schedule
