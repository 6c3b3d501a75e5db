use Rattle.std.proofs.Common.{◌≡◌, ap₂, ◌∙◌, arith}
use Rattle.poly_core.specs.Gcd.{gcd}
use Rattle.cyclo_core.proofs.ExponentLemmas.{exponent_is, no_exponent}
use Rattle.cyclo_core.proofs.number.Cyclo.is_exponent.Goals as goal

pub returns-then-k-eq0 : goal.returns-then-k-eq0
returns-then-k-eq0 c =
    let root = c.root-root.ensures.value in
    rw (← c.self.view_is) (no_exponent c.self.inside.powers c.args.k (λ some within. omega (arith, root, c.then-k-eq0.either)))

pub returns : goal.returns
returns c =
    let root = c.root-root.ensures.value in
    let common : c.gcd.result ≡ gcd c.args.k c.self.inside.powers = c.gcd.ensures ∙ ap₂ gcd c.from.ensures (c.from-2.ensures ∙ root) in
    rw (← c.self.view_is) (exponent_is c.self.inside.powers c.args.k c.gcd.result common (omega arith) (omega (arith, root)))
