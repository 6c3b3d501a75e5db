use Rattle.std.proofs.Common.{◌≡◌, ℕ, true}
use Rattle.fusion_rules.specs.Fusion.{fuses}
use Rattle.category_images.proofs.RuleLemmas.{grow_on, one_more}
use Rattle.category_images.proofs.rules.allow_row.Goals as goal

pub loop-b-preserved : goal.loop-b-preserved
loop-b-preserved g c =
    let w = g.P.Pattern.wanted c.args.pattern.now in
    let a = c.args.a in
    let new = c.allow_pair.new.rules in
    let next = c.allow_pair.ensures.grow in record {
      grow = grow_on w c.args.rules.now c.loop-b.rules new c.loop-b.invariant.grow next;
      done = one_more (λ x. (e : ℕ) → w.fuse a x e ≡ true → fuses new a x e ≡ true) c.loop-b.b
          (λ x less e is. next.keeps a x e (c.loop-b.invariant.done x less e is)) c.allow_pair.ensures.pair;
    }
