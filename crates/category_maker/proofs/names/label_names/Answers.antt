use Rattle.std.proofs.Common.{◌∷◌, [], ◌++◌, ◌∙◌, ap, sym}
use Rattle.category_maker.specs.MadeCategory.{label_name}
use Rattle.category_maker.proofs.RoundLemmas.{names_end}
use Rattle.category_maker.proofs.names.label_names.Goals as goal

pub loop-k-preserved : goal.loop-k-preserved
loop-k-preserved c = c.in_ok-add_name.ensures ∙ ap (λ t. t ++ label_name c.loop-k.k ∷ []) c.loop-k.invariant ∙ sym (names_end c.loop-k.k)
