use Rattle.std.proofs.Common.{◌≡◌, ℕ, ◌<◌, true}
use Rattle.fusion_rules.specs.Fusion.{fuses}
use Rattle.category_images.specs.Patterns.{ArePart}
use Rattle.category_images.proofs.rules.rules_of.Given as goal

abbrev pub invariant-loop-a : goal.invariant-loop-a
invariant-loop-a g l =
    let w = g.P.Pattern.wanted l.pattern in
    record {
      part : ArePart w l.rules;
      done : (x : ℕ) → x < l.a → (b e : ℕ) → w.fuse x b e ≡ true → fuses l.rules x b e ≡ true;
    }
