use Rattle.std.proofs.Common.{◌≡◌, ◌-◌}
use Rattle.fusion_rules.specs.First.{first_from, first_below}
use Rattle.fusion_rules.specs.Fusion.{fuses}
use Rattle.fusion_rules.specs.Check.{dual_fault}
use Rattle.fusion_rules.proofs.check.have_duals.Given as goal

-- the first fault is among what is left
abbrev pub invariant-loop-a : goal.invariant-loop-a
invariant-loop-a l =
    let n = l.rules.count in
    let fault = dual_fault n (fuses l.rules) in
    first_from fault l.a (n - l.a) ≡ first_below n fault
