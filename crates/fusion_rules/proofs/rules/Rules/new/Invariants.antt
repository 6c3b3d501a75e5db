use Rattle.std.proofs.Common.{◌≡◌, ◌<◌, ◌&&◌, ℕ, length}
use Rattle.std.specs.Prelude.{nat_lt}
use Rattle.fusion_rules.specs.declared.label.TheConstants.{LABEL_LIMIT}
use Rattle.fusion_rules.specs.Fusion.{stands_at, is_unit_triple}
use Rattle.fusion_rules.proofs.rules.Rules.new.Given as goal

-- the unit triples of the labels so far stand, and nothing else
abbrev pub invariant-loop-a : goal.invariant-loop-a
invariant-loop-a l =
    (length l.table ≡ 1728)
    × ((a b c : ℕ) → a < LABEL_LIMIT → b < LABEL_LIMIT → c < LABEL_LIMIT → stands_at l.table a b c ≡ (nat_lt c l.a && is_unit_triple a b c))
