use Rattle.std.proofs.Common.{◌≡◌, ap, ◌∙◌}
use Rattle.fusion_rules.specs.Fusion.{Fusion}
use Rattle.symbol_table.specs.Category.{draft_symbols}
use Rattle.shape_check.proofs.TableLemmas.{f_found}
use Rattle.shape_check.proofs.table.Table.f.Goals as goal

pub returns : goal.returns
returns g c =
    let x = c.args in
    let table = x.self.now in
    let symbols = draft_symbols (g.R.StarRing.ring table.draft.ring) g.R.StarRing.held table.draft in
    let count : c.count-n.result ≡ table.draft.rules.count = c.count-n.ensures.count ∙ ap (λ (r : Fusion). r.count) c.rules.ensures in
    f_found symbols table.values c.f_numbers.result.now x.a x.b x.c x.d x.e x.f c.count-n.result c.six_place.result count c.f_numbers.ensures c.requires c.six_place.ensures.value c.six_place.ensures.inside
