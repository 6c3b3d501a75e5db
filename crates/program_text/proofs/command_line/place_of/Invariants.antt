use Rattle.std.proofs.Common.{◌≡◌, drop, map}
use Rattle.program_text.specs.Grammar.{place_of}
use Rattle.program_text.specs.Program.{outcome_of}
use Rattle.program_text.proofs.command_line.place_of.Given as goal

abbrev pub invariant-loop-outcome : goal.invariant-loop-outcome
invariant-loop-outcome l = place_of (map outcome_of (drop l.outcome-index l.outcomes)) l.name ≡ place_of (map outcome_of l.outcomes) l.name
