use Rattle.std.proofs.Common.{ℕ, List, subst, rules}
use Rattle.std.proofs.lemmas.Int.{to_z-of_z}
use mir.Val.{SFits}
use mir.Syntax.{w128}
use Rattle.cyclo_text.specs.NumberWords.{comma, pieces}
use Rattle.cyclo_text.proofs.ReadLemmas.{Going, going_more}
use Rattle.cyclo_text.proofs.read.values.Goals as goal

pub loop-part-preserved : goal.loop-part-preserved
loop-part-preserved c =
    let v = c.in_ok-numbers.field-0 in
    let fits : SFits w128 v = search rules in
    let inv = c.loop-part.invariant in
    let all = pieces comma c.args.front.now in
    let now : Going all c.loop-part.pieces c.loop-part.j c.loop-part.numbers =
    record { count = inv.count; parts = inv.parts; fits = inv.fits; ahead = inv.ahead; value = inv.value; rest = inv.rest; len = inv.len; small = inv.small } in
    let next = going_more all c.next.new.self c.in-Some.part.now c.loop-part.j c.loop-part.numbers v c.requires.few c.in_ok-numbers.ensures.value c.in_ok-numbers.ensures.fits c.in_ok-numbers.ensures.small
    (subst (λ (left : List (List ℕ)). Going all left c.loop-part.j c.loop-part.numbers) c.in-Some.ensures now) in
    simp to_z-of_z (record { count = next.count; parts = next.parts; fits = next.fits; ahead = next.ahead; value = next.value; rest = next.rest; len = next.len; small = next.small })
