use Rattle.std.proofs.Common.{◌≡◌, ◌-◌}
use Rattle.std.specs.Prelude.{IsTrue}
use Rattle.ring_laws.specs.Stated.{product_at, steps}
use Rattle.symbol_table.specs.Category.{draft_symbols}
use Rattle.tree_shapes.specs.Outlines.{size}
use Rattle.charge_project.specs.Weights.{key_weight, node_weight}
use Rattle.charge_project.proofs.weigh.key_weight.Given as goal

-- what is left gives the product
abbrev pub invariant-loop-k : goal.invariant-loop-k
invariant-loop-k g l =
    let r = g.R.StarRing.ring l.category.ring in
    let c = draft_symbols r g.R.StarRing.held l.category in
    record {
      left : steps (λ k weights. product_at r weights (node_weight c l.state l.key k)) l.k (size l.state.shape - l.k) l.weights ≡ key_weight c l.state l.key;
      is_member : IsTrue (r.member l.weights);
    }
