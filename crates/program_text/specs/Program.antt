-- Programs as contracts see them.
use Rattle.std.specs.Prelude.{ℕ, List, map, string_bytes}
use Rattle.tree_shapes.specs.Labelled.{Labelled}
use Rattle.tree_shapes.specs.Views.{labelled}
use Rattle.program_text.specs.declared.plan.Command.{Command}
use Rattle.program_text.specs.declared.plan.Site.{Site}
use Rattle.program_text.specs.declared.plan.Outcome.{Outcome}
use Rattle.program_text.specs.declared.plan.Plan.{Plan}

-- A site: its name, its first and its last strand counted from 1, and its commands.
pub record ProgramSite : Type 0 where
  pub name : List ℕ
  pub first : ℕ
  pub last : ℕ
  pub commands : List Command

-- The name of an outcome, and the place of its measurement: its number in text order, from 0.
pub record ProgramOutcome : Type 0 where
  pub name : List ℕ
  pub place : ℕ

-- A program: the version of its text, the labelled start tree, the sites in the order of the text, and the named
-- outcomes.
pub record Program : Type 0 where
  pub version : ℕ
  pub start : Labelled
  pub sites : List ProgramSite
  pub outcomes : List ProgramOutcome

-- what a site of a plan says
abbrev pub site_of : Site → ProgramSite
site_of site = record { name = string_bytes site.name; first = site.first; last = site.last; commands = site.commands.items }

abbrev pub outcome_of : Outcome → ProgramOutcome
outcome_of outcome = record { name = string_bytes outcome.name; place = outcome.place }

-- what a plan says
abbrev pub program_of : Plan → Program
program_of plan = record {
  version = plan.version;
  start = labelled plan.start;
  sites = map site_of plan.sites.items;
  outcomes = map outcome_of plan.outcomes.items;
}
