use Rattle.std.proofs.Common.{length, ap, ◌∙◌}
use Rattle.anyon_app.proofs.NewLemmas.{pair_names_count}
use Rattle.anyon_app.proofs.new_categories.paired_text.Goals as goal

pub made_text-requires : goal.made_text-requires
made_text-requires c = ap length c.in-Ok.ensures ∙ pair_names_count c.count.result ∙ c.count.ensures.count ∙ ap (λ r. r.count) c.rules.ensures
