use Rattle.std.proofs.Common.{◌≡◌, ℕ, ◌<◌, true}
use Rattle.fusion_rules.specs.Fusion.{fuses}
use Rattle.category_images.specs.Patterns.{Grow}
use Rattle.category_images.proofs.rules.allow_pair.Given as goal

abbrev pub invariant-loop-c : goal.invariant-loop-c
invariant-loop-c g l =
    let w = g.P.Pattern.wanted l.pattern in
    record {
      grow : Grow w l.initial.rules l.rules;
      done : (e : ℕ) → e < l.c → w.fuse l.a l.b e ≡ true → fuses l.rules l.a l.b e ≡ true;
    }
