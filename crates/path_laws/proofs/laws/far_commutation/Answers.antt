use Rattle.symbol_table.specs.Category.{draft_symbols}
use Rattle.path_laws.proofs.FarLemmas.{far_letters, far_operators}
use Rattle.path_laws.proofs.laws.far_commutation.Goals as goal

pub returns : goal.returns
returns g c =
    let draft = c.args.category.now in
    let laws = g.met.R.StarRing.laws draft.ring in
    let s = draft_symbols (g.R.StarRing.ring draft.ring) g.R.StarRing.held draft in
    record { operators = far_operators s laws c.all_labels.ensures.proper; letters = far_letters s laws c.all_labels.ensures.proper }
