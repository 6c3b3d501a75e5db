use Rattle.std.proofs.Common.{arith}
use Rattle.std.proofs.lemmas.Bool.Decides.{nat_tests}
use Rattle.line_text.proofs.PartLemmas.{part_ends, part_last}
use Rattle.line_text.proofs.parts.split_part.Goals as goal

pub returns-then-byte-at-clause-parts : goal.returns-then-byte-at-clause-parts
returns-then-byte-at-clause-parts c = part_ends c.args.at c.args.text.now c.loop-i.i c.loop-i.invariant (omega arith) (omega arith)

pub returns-clause-parts : goal.returns-clause-parts
returns-clause-parts c = part_last c.args.at c.args.text.now (λ k below. c.loop-i.invariant k (omega arith)) (grind (arith, nat_tests))
