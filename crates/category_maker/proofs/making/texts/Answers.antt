use Rattle.std.proofs.Common.{length, ap, sym, ◌∙◌}
use Rattle.category_maker.proofs.RoundLemmas.{length-names}
use Rattle.category_maker.proofs.making.texts.Goals as goal

pub write_category-requires : goal.write_category-requires
write_category-requires c =
    ap (λ x. length x.names) c.in_ok-named.ensures ∙ length-names c.args.n ∙ sym (ap (λ x. x.given.count) c.in_ok-named.ensures)
