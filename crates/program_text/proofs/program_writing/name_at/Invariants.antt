use Rattle.std.proofs.Common.{◌≡◌, drop, map}
use Rattle.program_text.specs.Program.{outcome_of}
use Rattle.program_text.specs.Written.{name_at}
use Rattle.program_text.proofs.program_writing.name_at.Given as goal

abbrev pub invariant-loop-outcome : goal.invariant-loop-outcome
invariant-loop-outcome l = name_at (map outcome_of (drop l.outcome-index l.outcomes)) l.place ≡ name_at (map outcome_of l.outcomes) l.place
