use Rattle.symbol_table.specs.Category.{draft_symbols}
use Rattle.move_laws.proofs.Steps.{HasBraidLaws, linked_keep_words, step_keeps_words}
use Rattle.move_laws.proofs.Rows.{linked_have_equal_rows}
use Rattle.move_laws.proofs.laws.linked.Goals as goal

pub returns : goal.returns
returns g c =
    let draft = c.args.category.now in
    let s = draft_symbols (g.R.StarRing.ring draft.ring) g.R.StarRing.held draft in
    let has : HasBraidLaws s = record {
      keeps = c.comb_vectors.ensures.vectors.keeps;
      cancel = c.cancellation.ensures.cancel;
      far = c.far_commutation.ensures.operators;
      yb = c.yang_baxter.ensures;
    } in
    record {
      step = step_keeps_words s has;
      words = linked_keep_words s has;
      rows = linked_have_equal_rows s has c.cancellation.ensures.starts;
    }
