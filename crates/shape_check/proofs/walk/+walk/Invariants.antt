use Rattle.std.proofs.Common.{◌≡◌, ◌-◌, ℕ, ◌++◌, ◌∷◌, []}
use Rattle.fusion_rules.specs.First.{first_from, first_below}
use Rattle.symbol_table.specs.Category.{draft_symbols}
use Rattle.law_events.specs.First.{event_at, first_over}
use Rattle.law_events.specs.Sides.{verdict}
use Rattle.shape_check.specs.Shapes.{law_of}
use Rattle.shape_check.proofs.walk.+walk.Given as goal

abbrev pub decreases-walk : goal.decreases-walk
decreases-walk g l = l.more

-- the first event is among the labels that are left
abbrev pub invariant-loop-t : goal.invariant-loop-t
invariant-loop-t g l =
    let begun = l.initial.table.draft in
    let c = draft_symbols (g.R.StarRing.ring begun.ring) g.R.StarRing.held begun in
    let law = law_of l.shape in
    let next = λ (t : ℕ). first_over c.count (event_at c.fuse law (verdict c law)) (l.more - 1) (l.initial.index.items ++ t ∷ []) in
    record {
      draft : l.table.draft ≡ begun;
      same : l.index.items ≡ l.initial.index.items;
      left : first_from next l.t (c.count - l.t) ≡ first_below c.count next;
    }
