use Rattle.std.proofs.Common.{◌≡◌, ◌-◌, ℕ}
use Rattle.fusion_rules.specs.First.{first_from, first_below}
use Rattle.fusion_rules.specs.Fusion.{fuses}
use Rattle.fusion_rules.specs.Check.{ways_fault}
use Rattle.fusion_rules.proofs.check.associate_with_both.Given as goal

-- the first fault is among what is left
abbrev pub invariant-loop-c : goal.invariant-loop-c
invariant-loop-c l =
    let n = l.rules.count in
    let fault = λ (c : ℕ). first_below n (ways_fault n (fuses l.rules) l.a l.b c) in
    first_from fault l.c (n - l.c) ≡ first_below n fault
