use Rattle.std.proofs.Common.{◌≡◌, ℕ}
use Rattle.fusion_rules.specs.Fusion.{fuses}
use Rattle.category_maker.specs.Steps.{fuses_up_to}
use Rattle.category_maker.proofs.rules.allow_row.Given as goal

abbrev pub invariant-loop-b : goal.invariant-loop-b
invariant-loop-b l = record {
  count : l.rules.count ≡ l.n;
  triples : (x y z : ℕ) → fuses l.rules x y z ≡ fuses_up_to l.n l.a l.b x y z;
}
