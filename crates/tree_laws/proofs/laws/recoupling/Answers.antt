use Rattle.tree_laws.proofs.Coherence.{raising_left_keeps, raising_right_keeps}
use Rattle.symbol_table.specs.Category.{draft_symbols}
use Rattle.tree_laws.proofs.laws.recoupling.Goals as goal

pub returns : goal.returns
returns g c =
    let draft = c.args.category.now in
    let ring = g.R.StarRing.ring draft.ring in
    let laws = g.met.R.StarRing.laws draft.ring in
    let s = draft_symbols ring g.R.StarRing.held draft in
    record {
      left = raising_left_keeps s laws c.all_labels.ensures.proper c.all_labels.ensures.equations;
      right = raising_right_keeps s laws c.all_labels.ensures.proper c.all_labels.ensures.equations;
    }
