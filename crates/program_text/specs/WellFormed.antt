-- Well formed programs: what texts of version 1 and 2 can say.
use Rattle.std.specs.Prelude.{◌≡◌, ◌⊎◌, ℕ, ◌<◌, ◌≤◌, Bool, true, false, ◌||◌, ◌==◌, List, [], ◌∷◌, ◌++◌, length}
use Rattle.std.specs.List.{AllByRecursion, flat_map}
use Rattle.fusion_rules.specs.Names.{is_name}
use Rattle.tree_shapes.specs.Labelled.{Labelled, is_admissible, leaves, size}
use Rattle.tree_shapes.specs.declared.limits.TheConstants.{STRAND_LIMIT}
use Rattle.program_text.specs.declared.form.TheConstants.{COMMAND_LIMIT}
use Rattle.program_text.specs.declared.plan.Command.{Command}
use Rattle.program_text.specs.declared.plan.Command.TheVariants.{Braid, Raise, Measure, BraidWhen}
use Rattle.program_text.specs.Form.{labels_below}
use Rattle.program_text.specs.Grammar.{all_apart, are_alike, is_given, strands_behind}
use Rattle.program_text.specs.Letters.{gap_in, measurements}
use Rattle.program_text.specs.Program.{Program, ProgramOutcome, ProgramSite}

-- A start: 2 to STRAND_LIMIT strands, labels below the count, every node admissible.
pub record IsAdmittedStart (fuse : ℕ → ℕ → ℕ → Bool) (count : ℕ) (t : Labelled) : Type 0 where
  pub some : 2 ≤ size t
  pub few : size t ≤ STRAND_LIMIT
  pub labels : labels_below count t ≡ true
  pub admissible : is_admissible fuse t ≡ true

-- a gap between two strands of a site
abbrev pub IsGapOf : ProgramSite → Command → Type 0
IsGapOf site command = (site.first ≤ gap_in command) × (gap_in command < site.last)

-- A site: a name of 1 to 8 letters, digits and `_`, strands of so many, and commands at its gaps.
pub record IsSite (strands : ℕ) (site : ProgramSite) : Type 0 where
  pub name : is_name site.name ≡ true
  pub some : 1 ≤ site.first
  pub order : site.first ≤ site.last
  pub inside : site.last ≤ strands
  pub gaps : AllByRecursion (IsGapOf site) site.commands

-- sites behind others: none has the name or a strand of an earlier one
abbrev pub AreSites : ℕ → List ProgramSite → List ProgramSite → Type 0
AreSites strands before [] = Unit {0}
AreSites strands before (site ∷ sites) =
    IsSite strands site × (all_apart site.name site.first site.last before ≡ true) × AreSites strands (before ++ site ∷ []) sites

-- the commands of all sites, in the order of the text
abbrev pub commands_in : List ProgramSite → List Command
commands_in sites = flat_map (λ site. site.commands) sites

-- named outcomes behind others, where there are so many measurements: each name is new, and the places rise
abbrev pub AreOutcomes : ℕ → List ProgramOutcome → List ProgramOutcome → Type 0
AreOutcomes measured before [] = Unit {0}
AreOutcomes measured before (outcome ∷ outcomes) =
    (is_name outcome.name ≡ true) × (is_given before outcome.name ≡ false) × AllByRecursion (λ earlier. earlier.place < outcome.place) before
    × (outcome.place < measured) × AreOutcomes measured (before ++ outcome ∷ []) outcomes

-- whether the outcome at a place has a name
abbrev pub is_named : List ProgramOutcome → ℕ → Bool
is_named [] place = false
is_named (outcome ∷ outcomes) place = outcome.place == place || is_named outcomes place

-- the strands under commands, one after another
abbrev pub strands_under : List ℕ → List Command → List ℕ
strands_under strands [] = strands
strands_under strands (command ∷ commands) = strands_under (strands_behind strands command) commands

-- A test: version 2 has it; its label is below the count; it speaks of the named outcome of an earlier measurement; and
-- the strands that it exchanges have one label, after the braids before it.
pub record IsTest (version count : ℕ) (outcomes : List ProgramOutcome) (strands : List ℕ) (before : List Command) (gap place label : ℕ) : Type 0 where
  pub second : 2 ≤ version
  pub known : label < count
  pub named : is_named outcomes place ≡ true
  pub earlier : place < measurements before
  pub alike : are_alike (strands_under strands before) gap ≡ true

-- the test of a command behind others is one, if it has a test
abbrev pub IsTold : ℕ → ℕ → List ProgramOutcome → List ℕ → List Command → Command → Type 0
IsTold version count outcomes strands before (Braid gap sign) = Unit {0}
IsTold version count outcomes strands before (Raise gap) = Unit {0}
IsTold version count outcomes strands before (Measure gap) = Unit {0}
IsTold version count outcomes strands before (BraidWhen gap sign place label) = IsTest version count outcomes strands before gap place label

-- commands behind others
abbrev pub AreTold : ℕ → ℕ → List ProgramOutcome → List ℕ → List Command → List Command → Type 0
AreTold version count outcomes strands before [] = Unit {0}
AreTold version count outcomes strands before (command ∷ commands) =
    IsTold version count outcomes strands before command × AreTold version count outcomes strands (before ++ command ∷ []) commands

-- A well formed program over a category with these triples and so many labels.
pub record IsProgram (fuse : ℕ → ℕ → ℕ → Bool) (count : ℕ) (p : Program) : Type 0 where
  pub version : (p.version ≡ 1) ⊎ (p.version ≡ 2)
  pub start : IsAdmittedStart fuse count p.start
  pub some : 0 < length p.sites
  pub sites : AreSites (size p.start) [] p.sites
  pub few : length (commands_in p.sites) ≤ COMMAND_LIMIT
  pub outcomes : AreOutcomes (measurements (commands_in p.sites)) [] p.outcomes
  pub tests : AreTold p.version count p.outcomes (leaves p.start) [] (commands_in p.sites)
  pub first_version : p.version ≡ 1 → p.outcomes ≡ []
