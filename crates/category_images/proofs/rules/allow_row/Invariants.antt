use Rattle.std.proofs.Common.{◌≡◌, ℕ, ◌<◌, true}
use Rattle.fusion_rules.specs.Fusion.{fuses}
use Rattle.category_images.specs.Patterns.{Grow}
use Rattle.category_images.proofs.rules.allow_row.Given as goal

abbrev pub invariant-loop-b : goal.invariant-loop-b
invariant-loop-b g l =
    let w = g.P.Pattern.wanted l.pattern in
    record {
      grow : Grow w l.initial.rules l.rules;
      done : (x : ℕ) → x < l.b → (e : ℕ) → w.fuse l.a x e ≡ true → fuses l.rules l.a x e ≡ true;
    }
