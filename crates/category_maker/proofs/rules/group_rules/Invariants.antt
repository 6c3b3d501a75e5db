use Rattle.std.proofs.Common.{◌≡◌, ℕ}
use Rattle.fusion_rules.specs.Fusion.{fuses}
use Rattle.category_maker.specs.Steps.{fuses_up_to}
use Rattle.category_maker.proofs.rules.group_rules.Given as goal

abbrev pub invariant-loop-a : goal.invariant-loop-a
invariant-loop-a l = record {
  count : l.rules.count ≡ l.n;
  triples : (x y z : ℕ) → fuses l.rules x y z ≡ fuses_up_to l.n l.a 1 x y z;
}
