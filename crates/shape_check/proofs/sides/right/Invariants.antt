use Rattle.std.proofs.Common.{◌≡◌, ◌-◌, ◌<◌, length}
use Rattle.ring_laws.specs.Stated.{steps}
use Rattle.symbol_table.specs.Category.{draft_symbols}
use Rattle.kept_values.specs.Kept.{Grows, value_of}
use Rattle.shape_check.specs.Shapes.{right_at, step_at}
use Rattle.shape_check.proofs.sides.right.Given as goal

-- what is left leads to the whole sum
abbrev pub invariant-loop-label : goal.invariant-loop-label
invariant-loop-label g l =
    let begun = l.initial.table.draft in
    let ring = g.R.StarRing.ring begun.ring in
    let c = draft_symbols ring g.R.StarRing.held begun in
    record {
      draft : l.table.draft ≡ begun;
      grows : Grows l.initial.table.values l.table.values;
      kept : l.sum < length l.table.values;
      sum : steps (step_at c l.shape l.at) l.label (begun.rules.count - l.label) (value_of ring l.table.values l.sum) ≡ right_at c l.shape l.at;
    }
