use Rattle.std.proofs.Common.{◌∷◌, [], ◌++◌, ◌∙◌, ap, sym}
use Rattle.category_images.specs.Names.{pair_name}
use Rattle.category_images.proofs.NamesLemmas.{names_end}
use Rattle.category_images.proofs.names.product_names.Goals as goal

pub loop-k-preserved : goal.loop-k-preserved
loop-k-preserved c = c.in_ok-add_name.ensures ∙ ap (λ t. t ++ pair_name c.loop-k.k ∷ []) c.loop-k.invariant ∙ sym (names_end c.loop-k.k)
