-- A fault of a schedule text stops a command with its line.
use Rattle.std.proofs.Common.{◌≡◌, ℕ, List, [], ◌∷◌, map, string_bytes, Result, refl, ap, sym, subst}
use Rattle.program_text.specs.Program.{Program, ProgramSite, site_of}
use Rattle.program_text.specs.declared.plan.Site.{Site}
use Rattle.site_schedule.specs.Answers.{Fails}
use Rattle.site_schedule.specs.declared.fault.ScheduleFault.{ScheduleFault}
use Rattle.site_schedule.specs.declared.fault.ScheduleFault.TheVariants as schedule
use Rattle.anyon_app.specs.declared.stop.Stop.{Stop}
use Rattle.anyon_app.specs.declared.stop.Stop.TheVariants as stop
use Rattle.anyon_app.specs.Refusals.{schedule_line}
use Rattle.anyon_app.specs.Stages.{GivesUp, StopsWith}
use Rattle.anyon_app.specs.Programs.{turns_or}
use Rattle.anyon_app.proofs.StageLemmas.{gives_up}

-- the names of a program's sites
pub site_names : (sites : List Site) → map (λ (s : Site). string_bytes s.name) sites ≡ map (λ (s : ProgramSite). s.name) (map site_of sites)
site_names [] = refl
site_names (site ∷ sites) = ap (λ l. string_bytes site.name ∷ l) (site_names sites)

-- what is stated is the fault, unless memory was wanted
pub schedule_stops : (plan : Program) (fault : ScheduleFault) (ended : Stop) (stated : Result (List ℕ) ScheduleFault) → Fails fault stated
    → StopsWith (schedule_line (map (λ (s : ProgramSite). s.name) plan.sites) fault) ended → (fault ≡ schedule.Memory → ended ≡ stop.Memory) → GivesUp ended (turns_or plan stated)
schedule_stops plan (schedule.Line why) ended stated fails line wanted = gives_up _ ended (turns_or plan stated) (ap (turns_or plan) fails) line
schedule_stops plan (schedule.Header number) ended stated fails line wanted = gives_up _ ended (turns_or plan stated) (ap (turns_or plan) fails) line
schedule_stops plan (schedule.UnknownSite turn) ended stated fails line wanted = gives_up _ ended (turns_or plan stated) (ap (turns_or plan) fails) line
schedule_stops plan (schedule.TooMany turn) ended stated fails line wanted = gives_up _ ended (turns_or plan stated) (ap (turns_or plan) fails) line
schedule_stops plan (schedule.Early turn) ended stated fails line wanted = gives_up _ ended (turns_or plan stated) (ap (turns_or plan) fails) line
schedule_stops plan (schedule.Unfinished site) ended stated fails line wanted = gives_up _ ended (turns_or plan stated) (ap (turns_or plan) fails) line
schedule_stops plan schedule.Memory ended stated fails line wanted = subst (λ s. GivesUp s (turns_or plan stated)) (sym (wanted refl)) tt
