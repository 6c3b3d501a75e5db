-- The commands of a well formed program may run.
use Rattle.std.proofs.Common.{◌≡◌, Bool, ℕ, ◌+◌, ◌<◌, ◌≤◌, ◌^◌, List, [], ◌∷◌, ◌++◌, map, take, get_or, length, true, refl, ap, sym, subst, ◌∙◌, arith}
use Rattle.std.specs.List.{AllByRecursion}
use Rattle.std.proofs.lemmas.List.{map-append, take_more}
use Rattle.tree_shapes.specs.Labelled.{size, leaves}
use Rattle.program_text.specs.Letters.{IsTestOf, gap_in, gap_of, letter_at, letters, measurements, outcomes_of}
use Rattle.program_text.specs.Program.{Program, ProgramOutcome, ProgramSite, site_of}
use Rattle.program_text.specs.WellFormed.{AreSites, AreTold, IsGapOf, IsProgram, commands_in}
use Rattle.program_text.specs.declared.plan.Command.{Command}
use Rattle.program_text.specs.declared.plan.Command.TheVariants.{Braid, Raise, Measure, BraidWhen}
use Rattle.program_text.specs.declared.plan.Site.{Site}
use Rattle.program_text.proofs.KeptLemmas.{commands_push, measurements_push}
use Rattle.word_runs.specs.Told.{Told, IsGap}
use Rattle.word_runs.proofs.EachLemmas.{all_append, all_map}
use Rattle.run_laws.specs.Timely.{is_timely}
use Rattle.run_laws.proofs.ProgramLemmas.{programs_may_run}
use Rattle.outcome_rows.specs.Commands.{ProgramsAreRunnable}

-- the commands of one more site
pub site_more : (sites : List Site) (i : ℕ) (site : Site) → i < length sites → site ≡ get_or sites i site
    → commands_in (map site_of (take (i + 1) sites)) ≡ commands_in (map site_of (take i sites)) ++ site.commands.items
site_more sites i site low is =
    ap (λ ss. commands_in (map site_of ss)) (take_more sites i site low)
    ∙ (ap commands_in (map-append site_of (take i sites) (get_or sites i site ∷ []))
    ∙ (commands_push (map site_of (take i sites)) (site_of (get_or sites i site)) ∙ ap (λ (s : Site). commands_in (map site_of (take i sites)) ++ s.commands.items) (sym is)))

-- a command at a gap of n strands
record IsInside (n : ℕ) (command : Command) : Type 0 where
  low : 0 < gap_in command
  high : gap_in command < n

gap_is : (p : ℕ) (command : Command) → gap_of (letter_at p command) ≡ gap_in command
gap_is p (Braid k sign) = refl
gap_is p (Raise k) = refl
gap_is p (Measure k) = refl
gap_is p (BraidWhen k sign place label) = refl

sites_inside : (n : ℕ) (before sites : List ProgramSite) → AreSites n before sites → AllByRecursion (IsInside n) (commands_in sites)
sites_inside n before [] h = tt
sites_inside n before (site ∷ sites) h =
    let is = h.0 in
    all_append (IsInside n) site.commands (commands_in sites)
    (all_map (IsGapOf site) (IsInside n) site.commands
    (λ command gap.
    let some : 1 ≤ site.first = is.some in
    let inside : site.last ≤ n = is.inside in
    let above : site.first ≤ gap_in command = gap.0 in
    let below : gap_in command < site.last = gap.1 in
    record { low = omega arith; high = omega arith }) is.gaps)
    (sites_inside n _ sites h.2)

module _ {M T : Type 0} (e : Told M T) where
  letters_inside : (p : ℕ) (commands : List Command) → AllByRecursion (IsInside e.strands) commands → AllByRecursion (λ l. IsGap e (gap_of l)) (letters p commands)
  letters_inside p [] h = tt
  letters_inside p (command ∷ commands) h = (
    subst (IsGap e) (sym (gap_is p command)) (record { low = h.0.low; high = h.0.high }),
    letters_inside (p + outcomes_of command) commands h.1,
  )

  -- its commands are at gaps of its strands
  pub program_gaps : (fuse : ℕ → ℕ → ℕ → Bool) (count : ℕ) (p : Program) → e.strands ≡ size p.start → IsProgram fuse count p → AllByRecursion (λ l. IsGap e (gap_of l)) (letters 0 (commands_in p.sites))
  program_gaps fuse count p strands is =
      letters_inside 0 (commands_in p.sites) (subst (λ n. AllByRecursion (IsInside n) (commands_in p.sites)) (sym strands) (sites_inside (size p.start) [] p.sites is.sites))

-- a test speaks of one of the measurements
module _ (version count : ℕ) (outcomes : List ProgramOutcome) (strands : List ℕ) (m : ℕ) where
  told_tests : (before cs : List Command) → measurements before + measurements cs ≤ m → AreTold version count outcomes strands before cs → AllByRecursion (IsTestOf m) cs
  told_tests before [] few told = tt
  told_tests before (Braid k sign ∷ cs) few told = (tt, told_tests (before ++ Braid k sign ∷ []) cs (let push = measurements_push before (Braid k sign) in omega (arith, push)) told.1)
  told_tests before (Raise k ∷ cs) few told = (tt, told_tests (before ++ Raise k ∷ []) cs (let push = measurements_push before (Raise k) in omega (arith, push)) told.1)
  told_tests before (Measure k ∷ cs) few told = (tt, told_tests (before ++ Measure k ∷ []) cs (let push = measurements_push before (Measure k) in omega (arith, push)) told.1)
  told_tests before (BraidWhen k sign place label ∷ cs) few told = (
    (let earlier : place < measurements before = told.0.earlier in omega arith),
    told_tests (before ++ BraidWhen k sign place label ∷ []) cs (let push = measurements_push before (BraidWhen k sign place label) in omega (arith, push)) told.1,
  )

pub program_tests : (fuse : ℕ → ℕ → ℕ → Bool) (count : ℕ) (p : Program) → IsProgram fuse count p → AllByRecursion (IsTestOf (measurements (commands_in p.sites))) (commands_in p.sites)
program_tests fuse count p is =
    told_tests p.version count p.outcomes (leaves p.start) (measurements (commands_in p.sites)) [] (commands_in p.sites) (omega arith) is.tests

pub program_few : (fuse : ℕ → ℕ → ℕ → Bool) (count : ℕ) (p : Program) → IsProgram fuse count p → length (commands_in p.sites) < 2 ^ 31
program_few fuse count p is = let few : length (commands_in p.sites) ≤ 4096 = is.few in omega arith

pub program_timely : (fuse : ℕ → ℕ → ℕ → Bool) (count : ℕ) (p : Program) → IsProgram fuse count p → is_timely [] (letters 0 (commands_in p.sites)) ≡ true
program_timely fuse count p is = let run = programs_may_run fuse count p is in ap (λ cs. is_timely [] (letters 0 cs)) (sym run.text) ∙ run.timely

pub programs_are_runnable : {M T : Type 0} (e : Told M T) → ProgramsAreRunnable e
programs_are_runnable e fuse count p strands is = record {
  gaps = program_gaps e fuse count p strands is;
  tests = program_tests fuse count p is;
  few = program_few fuse count p is;
  timely = program_timely fuse count p is;
}
