use Rattle.std.proofs.Common.{◌≡◌, ℕ, ◌-◌, Option}
use Rattle.std.specs.Prelude.{IsTrue}
use Rattle.ring_laws.specs.Stated.{Gives, steps}
use Rattle.ring_laws.proofs.stated.sum_over_labels.Given as goal

-- for every step that the calls take, what is left leads to the whole sum
abbrev pub invariant-loop-t : goal.invariant-loop-t
invariant-loop-t g l =
    let ring = g.R.StarRing.ring l.ring in
    record {
      sum : (step : ℕ → g.row.R-Elem.Denot → Option g.row.R-Elem.Denot) → ((t : ℕ) (sum : _) (next : _) → goal.F-post g l.add_term t sum next → Gives next (step t sum))
          → steps step l.t (l.count - l.t) l.sum ≡ steps step 0 l.count ring.zero;
      member : IsTrue (ring.member l.sum);
    }
