use Rattle.std.proofs.Common.{◌≡◌, ◌-◌}
use Rattle.fusion_rules.specs.First.{first_from, first_below}
use Rattle.fusion_rules.specs.Fusion.{fuses}
use Rattle.fusion_rules.specs.Check.{ways_fault}
use Rattle.fusion_rules.proofs.check.have_equal_ways.Given as goal

-- the first fault is among what is left
abbrev pub invariant-loop-d : goal.invariant-loop-d
invariant-loop-d l =
    let n = l.rules.count in
    let fault = ways_fault n (fuses l.rules) l.a l.b l.c in
    first_from fault l.d (n - l.d) ≡ first_below n fault
