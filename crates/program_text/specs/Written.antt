-- The canonical text of a program.
use Rattle.std.specs.Prelude.{ℕ, ◌+◌, List, [], ◌∷◌, ◌++◌, ◌==◌, codes, if◌then◌else◌, Option, Some, None, unwrap_or}
use Rattle.std.specs.Fmt.{decimal}
use Rattle.line_text.specs.Spelling.{spelled}
use Rattle.fusion_rules.specs.Names.{name_of}
use Rattle.tree_shapes.specs.Labelled.{size}
use Rattle.program_text.specs.declared.plan.Command.{Command}
use Rattle.program_text.specs.declared.plan.Command.TheVariants.{Braid, Raise, Measure, BraidWhen}
use Rattle.program_text.specs.Canonical.{is_main, sign_word, tree_words}
use Rattle.program_text.specs.Letters.{measurements, outcomes_of}
use Rattle.program_text.specs.Program.{Program, ProgramOutcome, ProgramSite}

-- the name of the outcome at a place, if it has one
abbrev pub name_at : List ProgramOutcome → ℕ → Option (List ℕ)
name_at [] place = None
name_at (outcome ∷ outcomes) place = if outcome.place == place then Some outcome.name else name_at outcomes place

-- what stands behind a measurement whose outcome has a name
abbrev pub as_words : Option (List ℕ) → List (List ℕ)
as_words None = []
as_words (Some name) = codes "as" ∷ name ∷ []

-- the line of a site
abbrev pub site_words : ProgramSite → List (List ℕ)
site_words site = codes "site" ∷ site.name ∷ decimal site.first ∷ decimal site.last ∷ []

module _ (names : List (List ℕ)) (outcomes : List ProgramOutcome) where
  -- the line of a command before which there are so many measurements
  abbrev pub line_words : ℕ → Command → List (List ℕ)
  line_words place (Braid gap sign) = codes "braid" ∷ decimal gap ∷ sign_word sign ∷ []
  line_words place (Raise gap) = codes "raise" ∷ decimal gap ∷ []
  line_words place (Measure gap) = codes "measure" ∷ decimal gap ∷ as_words (name_at outcomes place)
  line_words place (BraidWhen gap sign tested label) = codes "braid" ∷ decimal gap ∷ sign_word sign ∷ codes "when" ∷ unwrap_or (name_at outcomes tested) [] ∷ name_of names label ∷ []

  -- the lines of commands, one after another
  abbrev pub lines_from : ℕ → List Command → List (List (List ℕ))
  lines_from place [] = []
  lines_from place (command ∷ commands) = line_words place command ∷ lines_from (place + outcomes_of command) commands

  -- sites with their lines, one after another
  abbrev pub sites_from : ℕ → List ProgramSite → List (List (List ℕ))
  sites_from place [] = []
  sites_from place (site ∷ sites) = (site_words site ∷ lines_from place site.commands) ++ sites_from (place + measurements site.commands) sites

  -- all sites; where `main` with all strands is the only one, it has no line
  abbrev pub body_lines : ℕ → List ProgramSite → List (List (List ℕ))
  body_lines strands (site ∷ []) = if is_main strands site then lines_from 0 site.commands else sites_from 0 (site ∷ [])
  body_lines strands sites = sites_from 0 sites

abbrev pub written_lines : List (List ℕ) → Program → List (List (List ℕ))
written_lines names p =
    (codes "program" ∷ decimal p.version ∷ []) ∷ (codes "start" ∷ tree_words names p.start) ∷ body_lines names p.outcomes (size p.start) p.sites

-- the canonical text of a program, its labels written by these names
unfoldable pub written : List (List ℕ) → Program → List ℕ
written names p = spelled (written_lines names p)
