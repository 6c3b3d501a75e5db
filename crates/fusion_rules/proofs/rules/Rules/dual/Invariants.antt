use Rattle.std.proofs.Common.{◌≡◌, ◌-◌, ◌<◌, ℕ, false, Some, None}
use Rattle.std.specs.Prelude.{if◌then◌else◌}
use Rattle.fusion_rules.specs.First.{first_from, first_below}
use Rattle.fusion_rules.specs.Fusion.{fuses}
use Rattle.fusion_rules.proofs.rules.Rules.dual.Given as goal

-- no label so far is the dual
abbrev pub invariant-loop-b : goal.invariant-loop-b
invariant-loop-b l =
    let n = l.self.count in
    let dual = λ (b : ℕ). if fuses l.self l.a b 0 then Some b else None in
    (first_from dual l.b (n - l.b) ≡ first_below n dual) × ((x : ℕ) → x < l.b → fuses l.self l.a x 0 ≡ false)
