use Rattle.std.proofs.Common.{◌≡◌, drop, map}
use Rattle.program_text.specs.Grammar.{all_apart}
use Rattle.program_text.specs.Program.{site_of}
use Rattle.program_text.proofs.site_line.all_apart.Given as goal

abbrev pub invariant-loop-site : goal.invariant-loop-site
invariant-loop-site l = all_apart l.name l.first l.last (map site_of (drop l.site-index l.sites)) ≡ all_apart l.name l.first l.last (map site_of l.sites)
