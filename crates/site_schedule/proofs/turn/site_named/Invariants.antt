use Rattle.std.proofs.Common.{◌≡◌, map, drop}
use Rattle.program_text.specs.Program.{site_of}
use Rattle.site_schedule.specs.Reading.{site_from}
use Rattle.site_schedule.proofs.turn.site_named.Given as goal

abbrev pub invariant-loop-site : goal.invariant-loop-site
invariant-loop-site l = record {
  same : site_from l.number (map site_of (drop l.site-index l.sites)) l.name ≡ site_from 0 (map site_of l.sites) l.name;
  number : l.number ≡ l.site-index;
}
