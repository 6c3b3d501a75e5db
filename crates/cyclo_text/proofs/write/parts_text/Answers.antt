use Rattle.std.proofs.Common.{[], ◌∷◌, ◌++◌, take, ap, sym, ◌∙◌, arith, rules}
use Rattle.std.specs.Prelude.{map}
use Rattle.std.specs.Fmt.{signed_decimal}
use Rattle.std.specs.List.{join_with_byte}
use Rattle.std.proofs.lemmas.Int.{to_z-of_z}
use mir.Val.{SFits}
use mir.Syntax.{w128}
use Rattle.cyclo_text.specs.NumberWords.{comma}
use Rattle.cyclo_text.proofs.TrimLemmas.{text-more}
use Rattle.cyclo_text.proofs.write.parts_text.Goals as goal

pub loop-j-preserved : goal.loop-j-preserved
loop-j-preserved c =
    let fits : SFits w128 c.numerator-in-loop-j.result = search rules in
    let written = simp to_z-of_z at c.in_ok-write_integer-2.ensures in
    let xs = c.args.number.now.numerators in
    let before = c.in_ok-push.ensures.items ∙ ap (λ l. l ++ comma ∷ []) c.loop-j.invariant in
    written ∙ ap (λ l. l ++ signed_decimal c.numerator-in-loop-j.result) before
    ∙ ap (λ z. (join_with_byte comma (map signed_decimal (take c.loop-j.j xs)) ++ comma ∷ []) ++ signed_decimal z) c.numerator-in-loop-j.ensures.value
    ∙ sym (text-more xs c.loop-j.j (omega arith) (omega (arith, c.requires, c.part_count-count.ensures.few)))
