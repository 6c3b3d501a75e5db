use Rattle.std.proofs.Common.{◌≡◌, drop}
use Rattle.std.specs.Prelude.{IsTrue}
use Rattle.ring_laws.specs.Stated.{steps_over}
use Rattle.symbol_table.specs.Category.{draft_symbols}
use Rattle.charge_project.specs.Weights.{stated_weight, weight_step}
use Rattle.charge_project.proofs.weigh.weight.Given as goal

-- what is left gives the weight
abbrev pub invariant-loop-place : goal.invariant-loop-place
invariant-loop-place g l =
    let r = g.R.StarRing.ring l.category.ring in
    let c = draft_symbols r g.R.StarRing.held l.category in
    record {
      left : steps_over (weight_step c l.state) (drop l.place l.state.amps) l.sum ≡ stated_weight c l.state;
      is_member : IsTrue (r.member l.sum);
    }
