use Rattle.std.proofs.Common.{sym, ◌∙◌, arith}
use Rattle.fusion_rules.specs.Fusion.{fuses}
use Rattle.fusion_rules.proofs.PassLemmas.{dual_is, some_dual}
use Rattle.fusion_rules.proofs.rules.Rules.dual.Goals as goal

pub returns-then-allows-clause-dual : goal.returns-then-allows-clause-dual
returns-then-allows-clause-dual c =
    dual_is _ _ c.args.a c.loop-b.b c.requires.pass c.requires.label (omega (arith, c.count-b-end.ensures.count)) (sym c.allows.ensures ∙ c.if-allows.true)

pub unreachable-requires : goal.unreachable-requires
unreachable-requires c =
    some_dual _ (fuses c.args.self.now) c.args.a c.requires.pass c.requires.label (λ x h. c.loop-b.invariant.1 x (omega (arith, c.count-b-end.ensures.count)))
