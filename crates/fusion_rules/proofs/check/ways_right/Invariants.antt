use Rattle.std.proofs.Common.{◌≡◌, ◌&&◌, ℕ}
use Rattle.fusion_rules.specs.Fusion.{fuses}
use Rattle.fusion_rules.specs.Check.{count_below}
use Rattle.fusion_rules.proofs.check.ways_right.Given as goal

abbrev pub invariant-loop-f : goal.invariant-loop-f
invariant-loop-f l = l.ways ≡ count_below l.f (λ (x : ℕ). fuses l.rules l.b l.c x && fuses l.rules l.a x l.d)
