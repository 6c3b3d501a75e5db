use Rattle.std.proofs.Common.{◌≡◌, ℕ, true}
use Rattle.fusion_rules.specs.Fusion.{fuses}
use Rattle.category_images.proofs.RuleLemmas.{one_more}
use Rattle.category_images.proofs.rules.rules_of.Goals as goal

pub loop-a-preserved : goal.loop-a-preserved
loop-a-preserved g c =
    let w = g.P.Pattern.wanted c.args.pattern.now in
    let new = c.allow_row.new.rules in
    let next = c.allow_row.ensures.grow in record {
      part = next.part;
      done = one_more (λ x. (b e : ℕ) → w.fuse x b e ≡ true → fuses new x b e ≡ true) c.loop-a.a
          (λ x less b e is. next.keeps x b e (c.loop-a.invariant.done x less b e is)) c.allow_row.ensures.row;
    }
