use Rattle.symbol_table.specs.Category.{draft_symbols}
use Rattle.run_laws.proofs.CombVectors.{are_comb_vectors, combs_commute_far, exchanges_leave_some}
use Rattle.run_laws.proofs.laws.comb_vectors.Goals as goal

pub returns : goal.returns
returns g c =
    let draft = c.args._category.now in
    let laws = g.met.R.StarRing.laws draft.ring in
    let s = draft_symbols (g.R.StarRing.ring draft.ring) g.R.StarRing.held draft in
    record {
      vectors = are_comb_vectors s laws;
      far = combs_commute_far s laws;
      some = exchanges_leave_some s laws;
    }
