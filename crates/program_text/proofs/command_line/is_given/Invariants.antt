use Rattle.std.proofs.Common.{◌≡◌, drop, map}
use Rattle.program_text.specs.Grammar.{is_given}
use Rattle.program_text.specs.Program.{outcome_of}
use Rattle.program_text.proofs.command_line.is_given.Given as goal

abbrev pub invariant-loop-outcome : goal.invariant-loop-outcome
invariant-loop-outcome l = is_given (map outcome_of (drop l.outcome-index l.outcomes)) l.name ≡ is_given (map outcome_of l.outcomes) l.name
