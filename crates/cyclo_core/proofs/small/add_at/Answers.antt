use Rattle.std.proofs.Common.{rules, ◌≡◌, ◌<◌, length}
use Rattle.std.specs.Prelude.{◌+ℤ◌, ◌*ℤ◌}
use Rattle.std.proofs.lemmas.Int.{to_z-of_z}
use mir.Val.{SFits}
use mir.Syntax.{w64}
use Rattle.poly_core.specs.Table.{at}
use Rattle.cyclo_core.proofs.SmallLemmas.{weighed_set}
use Rattle.cyclo_core.proofs.small.add_at.Goals as goal

pub returns-clause-value : goal.returns-clause-value
returns-clause-value c =
    let fits : SFits w64 c.plus.result = search rules in
    let long : c.args.k < length c.args.c.now = search rules in
    let is : c.plus.result ≡ at c.args.c.now c.args.k +ℤ (c.args.x.now *ℤ c.args.y.now) = search rules in
    λ r. simp to_z-of_z (weighed_set c.args.c.now c.args.k c.plus.result (c.args.x.now *ℤ c.args.y.now) r c.requires.place long is)
