use Rattle.std.proofs.Common.{◌≡◌, ◌&&◌, refl, ap, ◌∙◌, arith}
use Rattle.std.specs.Prelude.{nat_lt}
use Rattle.std.proofs.lemmas.List.{length-set}
use Rattle.fusion_rules.specs.Fusion.{is_unit_triple}
use Rattle.fusion_rules.proofs.UnitLemmas.{no_units, unit_more, unit_rules}
use Rattle.fusion_rules.proofs.rules.Rules.new.Goals as goal

pub loop-a-init : goal.loop-a-init
loop-a-init c = (refl, λ x y z hx hy hz. no_units 1728 x y z (omega arith) hx hy hz)

pub loop-a-preserved : goal.loop-a-preserved
loop-a-preserved c =
    rw (c.place.ensures.value, c.place-in-loop-a.ensures.value) (
      simp length-set c.loop-a.invariant.0,
      λ x y z hx hy hz. unit_more c.loop-a.table c.loop-a.a x y z c.loop-a.invariant.0 (omega arith) hx hy hz (c.loop-a.invariant.1 x y z hx hy hz),
    )

pub invariant_of-result : goal.invariant_of-result
invariant_of-result c =
    let all : c.loop-a.a ≡ c.args.count = omega arith in
    unit_rules _ c.loop-a.table c.requires.some c.requires.few c.loop-a.invariant.0
    (λ x y z hx hy hz. c.loop-a.invariant.1 x y z hx hy hz ∙ ap (λ n. nat_lt z n && is_unit_triple x y z) all)
