use Rattle.symbol_table.specs.Category.{draft_symbols}
use Rattle.path_laws.proofs.CancelLemmas.{braids_cancel, operators_stay_over, starts_are_over, states_are_over}
use Rattle.path_laws.proofs.laws.cancellation.Goals as goal

pub returns : goal.returns
returns g c =
    let draft = c.args.category.now in
    let laws = g.met.R.StarRing.laws draft.ring in
    let s = draft_symbols (g.R.StarRing.ring draft.ring) g.R.StarRing.held draft in
    let all = c.all_labels.ensures in
    record {
      cancel = braids_cancel s laws all.proper all.equations all.weighted;
      starts = starts_are_over s laws;
      states = states_are_over s laws;
      operators = operators_stay_over s laws;
    }
