use Rattle.std.proofs.Common.{◌≡◌, length}
use Rattle.program_text.specs.Answers.{so_far}
use Rattle.program_text.specs.Grammar.{body_of}
use Rattle.program_text.proofs.program.read_body.Given as goal

abbrev pub invariant-loop-draft : goal.invariant-loop-draft
invariant-loop-draft l = body_of l.names l.version (so_far l.draft) l.lines.ahead ≡ body_of l.names l.version (so_far l.fn.draft) l.fn.lines.ahead

abbrev pub decreases-loop-draft : goal.decreases-loop-draft
decreases-loop-draft l = length l.lines.ahead
