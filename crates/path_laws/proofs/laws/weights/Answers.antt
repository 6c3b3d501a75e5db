use Rattle.symbol_table.specs.Category.{draft_symbols}
use Rattle.path_laws.proofs.ListWeights.{braids_keep, charges_share}
use Rattle.path_laws.proofs.laws.weights.Goals as goal

pub returns : goal.returns
returns g c =
    let draft = c.args.category.now in
    let laws = g.met.R.StarRing.laws draft.ring in
    let s = draft_symbols (g.R.StarRing.ring draft.ring) g.R.StarRing.held draft in
    let all = c.all_labels.ensures in
    record {
      braids = braids_keep s laws all.proper all.equations all.weighted;
      charges = charges_share s laws all.proper all.equations all.weighted;
    }
