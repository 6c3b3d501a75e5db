-- What a well formed program owes to its runs, and that it does.
use Rattle.std.specs.Prelude.{◌≡◌, ℕ, Bool, true, List, [], map}
use Rattle.tree_shapes.specs.Labelled.{size}
use Rattle.program_text.specs.Letters.{letters}
use Rattle.program_text.specs.Program.{Program, ProgramSite}
use Rattle.program_text.specs.WellFormed.{IsProgram, commands_in}
use Rattle.program_text.specs.declared.plan.Command.{Command}
use Rattle.run_laws.specs.Schedules.{Range, AreApart, site_letters}
use Rattle.run_laws.specs.Timely.{is_timely}
use Rattle.run_laws.specs.Turns.{in_text}

abbrev pub range_of : ProgramSite → Range
range_of site = record { first = site.first; last = site.last }

abbrev pub ranges_of : List ProgramSite → List Range
ranges_of sites = map range_of sites

abbrev pub commands_of : List ProgramSite → List (List Command)
commands_of sites = map (λ site. site.commands) sites

-- Its sites are apart, its text tests each outcome after it is there, and its commands are those of the sites in the order
-- of the text.
pub record MayRun (p : Program) : Type 0 where
  pub apart : AreApart (size p.start) (ranges_of p.sites) (site_letters 0 (commands_of p.sites))
  pub timely : is_timely [] (letters 0 (in_text (commands_of p.sites))) ≡ true
  pub text : in_text (commands_of p.sites) ≡ commands_in p.sites

abbrev pub ProgramsMayRun : Type 0
ProgramsMayRun = (fuse : ℕ → ℕ → ℕ → Bool) (count : ℕ) (p : Program) → IsProgram fuse count p → MayRun p
