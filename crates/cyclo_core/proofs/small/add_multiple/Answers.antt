use Rattle.std.proofs.Common.{rules, ◌≡◌, ◌+◌, ◌^◌, ◌≤◌, length-set, ◌∙◌, arith}
use Rattle.std.specs.Prelude.{◌+ℤ◌, ◌*ℤ◌, unsigned_abs}
use Rattle.std.proofs.lemmas.Int.{to_z-of_z}
use mir.Val.{SFits}
use mir.Syntax.{w64}
use Rattle.poly_core.specs.Combination.{Sequence}
use Rattle.poly_core.specs.Table.{at}
use Rattle.cyclo_core.proofs.SmallLemmas.{added_more}
use Rattle.cyclo_core.proofs.small.add_multiple.Goals as goal

pub loop-j-preserved : goal.loop-j-preserved
loop-j-preserved c =
    let fits : SFits w64 c.plus.result = search rules in
    let inv = c.loop-j.invariant in
    let term : Sequence = λ k. c.args.c.now *ℤ at c.args.row.now k in
    let is : c.plus.result ≡ at c.loop-j.out c.loop-j.j +ℤ term c.loop-j.j = search rules in
    let size : unsigned_abs c.plus.result ≤ unsigned_abs (at c.loop-j.out c.loop-j.j) + 2 ^ 56 = search rules in
    let next = added_more c.args.out.now c.loop-j.out c.loop-j.j c.plus.result term (omega (arith, inv.len)) is size (record { value = inv.value; ahead = inv.ahead; size = inv.size }) in
    simp to_z-of_z (record { value = next.value; ahead = next.ahead; size = next.size; len = length-set _ _ _ ∙ inv.len })
