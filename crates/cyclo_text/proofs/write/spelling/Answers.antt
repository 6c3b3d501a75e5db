use Rattle.std.proofs.Common.{◌≡◌, ◌≢◌, ℕ, [], ◌∷◌, ◌++◌, ap, sym, ◌∙◌, rules, append_assoc}
use Rattle.std.specs.Prelude.{pos, map}
use Rattle.std.specs.List.{join_with_byte}
use Rattle.std.specs.Fmt.{signed_decimal, decimal}
use mir.Val.{SFits, of_z, to_z}
use mir.Syntax.{w128}
use Rattle.cyclo_core.proofs.GivenLemmas.{bits_back}
use Rattle.cyclo_text.specs.NumberWords.{comma, slash, trimmed}
use Rattle.cyclo_text.proofs.TrimLemmas.{spelled-whole, spelled-over}
use Rattle.cyclo_text.proofs.write.spelling.Goals as goal

pub returns-then-denominator-eq1 : goal.returns-then-denominator-eq1
returns-then-denominator-eq1 c =
    let fits : SFits w128 c.args.denominator.now = search rules in
    let d : ℕ = c.args.number.now.denominator in
    let one : pos d ≡ pos 1 = sym c.requires.under ∙ sym (bits_back c.args.denominator.now fits) ∙ ap (to_z w128) c.if-denominator-eq1.true in
    let whole : d ≡ 1 = cc in
    c.in_ok-text.ensures ∙ sym (spelled-whole c.args.number.now whole)

pub returns : goal.returns
returns c =
    let d : ℕ = c.args.number.now.denominator in
    let text = join_with_byte comma (map signed_decimal (trimmed c.args.number.now.numerators)) in
    let other : d ≢ 1 = λ e. c.if-denominator-eq1.false (ap (of_z w128) (c.requires.under ∙ ap pos e)) in
    c.in_ok-write_integer.ensures
    ∙ ap (λ l. l ++ signed_decimal c.args.denominator.now) (c.in_ok-push.ensures.items ∙ ap (λ l. l ++ slash ∷ []) c.in_ok-text.ensures)
    ∙ ap (λ z. (text ++ slash ∷ []) ++ signed_decimal z) c.requires.under
    ∙ append_assoc text (slash ∷ []) (decimal d)
    ∙ sym (spelled-over c.args.number.now other)
