use Rattle.std.proofs.Common.{◌∙◌}
use Rattle.symbol_table.specs.Category.{draft_symbols}
use Rattle.braid_act.proofs.SymbolLemmas.{kept, kept_result}
use Rattle.braid_act.proofs.act.exchanged_at.Goals as goal

pub returns-clause-some : goal.returns-clause-some
returns-clause-some g c =
    let draft = c.args.category.now in
    let s = draft_symbols (g.R.StarRing.ring draft.ring) g.R.StarRing.held draft in
    let at = c.args.at.now in
    kept_result g.R.StarRing.held c.mul.result c.mul.ensures.value
    ((λ j. g.R.StarRing.held.is_zero ((g.R.StarRing.ring (c.ring.ensures j)).product (c.symbol_at-symbol.ensures.value j) c.args.amplitude.now))
    ∙ kept s (g.met.R.StarRing.laws draft.ring) c.all_labels.ensures.proper c.all_labels.ensures.weighted c.args.sign at.a at.b at.c c.args.amplitude.now c.requires.fuses c.requires.member c.requires.some)
