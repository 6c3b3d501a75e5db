use Rattle.symbol_table.specs.Category.{draft_symbols}
use Rattle.sum_laws.proofs.WordSums.{programs_sum_to_total, rows_share_weight, words_share_weight}
use Rattle.sum_laws.proofs.laws.sums.Goals as goal

pub returns : goal.returns
returns g c =
    let draft = c.args.category.now in
    let laws = g.met.R.StarRing.laws draft.ring in
    let s = draft_symbols (g.R.StarRing.ring draft.ring) g.R.StarRing.held draft in
    let braids = c.weights.ensures.braids in
    let charges = c.weights.ensures.charges in
    record {
      words = words_share_weight s laws braids charges;
      rows = rows_share_weight s laws braids charges;
      programs = programs_sum_to_total s laws braids charges c.programs.ensures;
    }
