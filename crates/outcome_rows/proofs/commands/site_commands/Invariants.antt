use Rattle.std.proofs.Common.{◌≡◌, take, map}
use Rattle.program_text.specs.Program.{site_of}
use Rattle.program_text.specs.WellFormed.{commands_in}
use Rattle.outcome_rows.proofs.commands.site_commands.Given as goal

-- the commands of the sites so far
abbrev pub invariant-loop-site : goal.invariant-loop-site
invariant-loop-site l = l.commands.items ≡ commands_in (map site_of (take l.site-index l.sites))
