use Rattle.std.proofs.Common.{◌≡◌, ◌-◌}
use Rattle.fusion_rules.specs.First.{first_from, first_below}
use Rattle.fusion_rules.specs.Fusion.{fuses}
use Rattle.fusion_rules.specs.Check.{mirror_fault}
use Rattle.fusion_rules.proofs.check.are_mirrored.Given as goal

-- the first fault is among what is left
abbrev pub invariant-loop-c : goal.invariant-loop-c
invariant-loop-c l =
    let n = l.rules.count in
    let fault = mirror_fault (fuses l.rules) l.a l.b in
    first_from fault l.c (n - l.c) ≡ first_below n fault
