use Rattle.std.proofs.Common.{◌≡◌}
use Rattle.word_runs.specs.Parts.{parts_of}
use Rattle.charge_project.specs.Splits.{parts_below}
use Rattle.charge_project.proofs.parts.split.Given as goal

-- the parts of the labels so far
abbrev pub invariant-loop-label : goal.invariant-loop-label
invariant-loop-label g l = parts_of (λ s. s) l.parts.items ≡ parts_below l.k l.state l.label
