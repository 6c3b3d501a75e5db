use Rattle.std.proofs.Common.{◌≡◌, ◌-◌, ℕ}
use Rattle.fusion_rules.specs.First.{first_from, first_below}
use Rattle.fusion_rules.specs.Fusion.{fuses}
use Rattle.fusion_rules.specs.Check.{ways_fault}
use Rattle.fusion_rules.proofs.check.associate.Given as goal

-- the first fault is among what is left
abbrev pub invariant-loop-a : goal.invariant-loop-a
invariant-loop-a l =
    let n = l.rules.count in
    let fault = λ (a : ℕ). first_below n (λ b. first_below n (λ c. first_below n (ways_fault n (fuses l.rules) a b c))) in
    first_from fault l.a (n - l.a) ≡ first_below n fault
