use Rattle.std.proofs.Common.{◌≡◌, ◌++◌, take, map}
use Rattle.line_text.specs.Spelling.{spelled}
use Rattle.program_text.specs.Letters.{measurements}
use Rattle.program_text.specs.Program.{outcome_of, site_of}
use Rattle.program_text.specs.WellFormed.{commands_in}
use Rattle.program_text.specs.Written.{sites_from}
use Rattle.program_text.proofs.program_writing.extend_sites.Given as goal

abbrev pub invariant-loop-site : goal.invariant-loop-site
invariant-loop-site l = record {
  text : l.out.items ≡ l.fn.out.items ++ spelled (sites_from l.names (map outcome_of l.outcomes) 0 (map site_of (take l.site-index l.sites)));
  place : l.place ≡ measurements (commands_in (map site_of (take l.site-index l.sites)));
}
