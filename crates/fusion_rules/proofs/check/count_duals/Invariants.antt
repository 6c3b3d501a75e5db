use Rattle.std.proofs.Common.{◌≡◌, ℕ}
use Rattle.fusion_rules.specs.Fusion.{fuses}
use Rattle.fusion_rules.specs.Check.{count_below}
use Rattle.fusion_rules.proofs.check.count_duals.Given as goal

abbrev pub invariant-loop-b : goal.invariant-loop-b
invariant-loop-b l = l.duals ≡ count_below l.b (λ (x : ℕ). fuses l.rules l.a x 0)
