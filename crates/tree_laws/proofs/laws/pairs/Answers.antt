use Rattle.symbol_table.specs.Category.{draft_symbols}
use Rattle.tree_laws.proofs.Pairs.{exchanged_is, split_is}
use Rattle.tree_laws.proofs.laws.pairs.Goals as goal

pub returns : goal.returns
returns g c =
    let draft = c.args.category.now in
    let laws = g.met.R.StarRing.laws draft.ring in
    let s = draft_symbols (g.R.StarRing.ring draft.ring) g.R.StarRing.held draft in
    let proper = c.all_labels.ensures.proper in
    let equations = c.all_labels.ensures.equations in
    record {
      positive = exchanged_is s laws proper equations s.r proper.r_off;
      negative = exchanged_is s laws proper equations s.s proper.s_off;
      split = split_is s laws proper equations;
    }
