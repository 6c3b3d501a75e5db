use Rattle.std.proofs.Common.{◌≡◌, ◌&&◌, ℕ}
use Rattle.fusion_rules.specs.Fusion.{fuses}
use Rattle.fusion_rules.specs.Check.{count_below}
use Rattle.fusion_rules.proofs.check.ways_left.Given as goal

abbrev pub invariant-loop-e : goal.invariant-loop-e
invariant-loop-e l = l.ways ≡ count_below l.e (λ (x : ℕ). fuses l.rules l.a l.b x && fuses l.rules x l.c l.d)
