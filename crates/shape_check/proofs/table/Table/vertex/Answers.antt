use Rattle.std.proofs.Common.{◌≡◌, ap, ◌∙◌}
use Rattle.fusion_rules.specs.Fusion.{Fusion}
use Rattle.symbol_table.specs.Category.{draft_symbols}
use Rattle.shape_check.proofs.TableLemmas.{vertex_found}
use Rattle.shape_check.proofs.table.Table.vertex.Goals as goal

pub returns : goal.returns
returns g c =
    let x = c.args in
    let table = x.self.now in
    let symbols = draft_symbols (g.R.StarRing.ring table.draft.ring) g.R.StarRing.held table.draft in
    let count : c.count-n.result ≡ table.draft.rules.count = c.count-n.ensures.count ∙ ap (λ (r : Fusion). r.count) c.rules.ensures in
    vertex_found symbols table.values c.vertex_numbers.result.now x.exchange x.a x.b x.c c.count-n.result c.three_place.result count c.vertex_numbers.ensures c.requires c.three_place.ensures.value c.three_place.ensures.inside
