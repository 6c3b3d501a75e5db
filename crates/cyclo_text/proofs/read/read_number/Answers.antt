use Rattle.std.proofs.Common.{◌≡◌, true, false, sym, ◌∙◌, arith, rules}
use Rattle.std.proofs.lemmas.Bool.Decides.{nat_tests}
use Rattle.cyclo_text.proofs.ReadLemmas.{number_of-none, number_of-halves, number_over-parts, number_over-under, number_over-spelled}
use Rattle.cyclo_text.proofs.read.read_number.Goals as goal

pub returns-in-None-clause-value : goal.returns-in-None-clause-value
returns-in-None-clause-value c = sym (number_of-none c.args.ring.now c.args.word.now c.in-None.ensures)

pub returns-then-not-are_parts-clause-value : goal.returns-then-not-are_parts-clause-value
returns-then-not-are_parts-clause-value c =
    let bad : c.are_parts.result ≡ false = first_of (search rules, grind (arith, nat_tests)) in
    sym (number_of-halves c.args.ring.now c.args.word.now _ _ c.in-Some.ensures ∙ number_over-parts c.args.ring.now _ _ (sym c.are_parts.ensures ∙ bad))

pub returns-then-not-is_natural-clause-value : goal.returns-then-not-is_natural-clause-value
returns-then-not-is_natural-clause-value c =
    let good : c.are_parts.result ≡ true = first_of (search rules, grind (arith, nat_tests)) in
    let bad : c.is_natural.result ≡ false = first_of (search rules, grind (arith, nat_tests)) in
    sym (number_of-halves c.args.ring.now c.args.word.now _ _ c.in-Some.ensures ∙ number_over-under c.args.ring.now _ _ (sym c.are_parts.ensures ∙ good) (sym c.is_natural.ensures ∙ bad))

pub returns-clause-value : goal.returns-clause-value
returns-clause-value c =
    let parts : c.are_parts.result ≡ true = first_of (search rules, grind (arith, nat_tests)) in
    let natural : c.is_natural.result ≡ true = first_of (search rules, grind (arith, nat_tests)) in
    c.number_over.ensures.value
    ∙ sym (number_of-halves c.args.ring.now c.args.word.now _ _ c.in-Some.ensures ∙ number_over-spelled c.args.ring.now _ _ (sym c.are_parts.ensures ∙ parts) (sym c.is_natural.ensures ∙ natural))
