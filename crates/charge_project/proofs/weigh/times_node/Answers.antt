use Rattle.std.proofs.Common.{◌≡◌, ◌-◌, ◌∙◌}
use Rattle.fusion_rules.specs.Fusion.{fuses}
use Rattle.symbol_table.specs.Category.{draft_symbols}
use Rattle.tree_shapes.specs.Outlines.{left_gap, right_gap}
use Rattle.charge_project.specs.Weights.{child_label}
use Rattle.charge_project.proofs.NodeLemmas.{node_fuses}
use Rattle.charge_project.proofs.weigh.times_node.Goals as goal

pub w-requires : goal.w-requires
w-requires g c =
    let s = draft_symbols (g.R.StarRing.ring c.args.category.now.ring) g.R.StarRing.held c.args.category.now in
    let state = c.args.state.now in
    let key = c.args.key.now in
    let k = c.args.k in
    let strands : c.as_slice.result.now ≡ state.strands = c.as_slice.ensures.value ∙ c.strands.ensures in
    let shape : c.shape.result.now ≡ state.shape = c.shape.ensures in
    let left : c.vertex_at-at.result.a ≡ child_label state.strands key (k - 1) (left_gap state.shape k) = c.vertex_at-at.ensures.left ∙ (λ j. child_label (strands j) key (k - 1) (left_gap (shape j) k)) in
    let right : c.vertex_at-at.result.b ≡ child_label state.strands key k (right_gap state.shape k) = c.vertex_at-at.ensures.right ∙ (λ j. child_label (strands j) key k (right_gap (shape j) k)) in
    (λ j. fuses c.args.category.now.rules (left j) (right j) (c.vertex_at-at.ensures.own j)) ∙ node_fuses state.strands key s state.shape k c.requires.low c.requires.gap c.requires.admissible
