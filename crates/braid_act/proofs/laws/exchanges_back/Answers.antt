use Rattle.symbol_table.specs.Category.{draft_symbols}
use Rattle.braid_act.proofs.BackLemmas.{exchanges_back}
use Rattle.braid_act.proofs.laws.exchanges_back.Goals as goal

pub returns : goal.returns
returns g c =
    let draft = c.args.category.now in
    exchanges_back (draft_symbols (g.R.StarRing.ring draft.ring) g.R.StarRing.held draft) (g.met.R.StarRing.laws draft.ring) c.all_labels.ensures.proper c.all_labels.ensures.weighted
