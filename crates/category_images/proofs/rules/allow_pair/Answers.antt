use Rattle.std.proofs.Common.{◌≡◌, true}
use Rattle.fusion_rules.specs.Fusion.{fuses}
use Rattle.category_images.proofs.RuleLemmas.{grow_on, one_more}
use Rattle.category_images.proofs.rules.allow_pair.Goals as goal

pub loop-c-preserved : goal.loop-c-preserved
loop-c-preserved g c =
    let w = g.P.Pattern.wanted c.args.pattern.now in
    let a = c.args.a in
    let b = c.args.b in
    let new = c.allow_triple.new.rules in
    let next = c.allow_triple.ensures.grow in record {
      grow = grow_on w c.args.rules.now c.loop-c.rules new c.loop-c.invariant.grow next;
      done = one_more (λ e. w.fuse a b e ≡ true → fuses new a b e ≡ true) c.loop-c.c
          (λ e less is. next.keeps a b e (c.loop-c.invariant.done e less is)) c.allow_triple.ensures.triple;
    }
