use Rattle.std.proofs.Common.{◌≡◌, ◌-◌}
use Rattle.std.specs.Prelude.{IsTrue}
use Rattle.ring_laws.specs.Stated.{steps}
use Rattle.symbol_table.specs.Category.{symbols}
use Rattle.comb_run.specs.Entries.{vector_of}
use Rattle.comb_run.specs.Evaluated.{acted_step}
use Rattle.comb_run.specs.Kept.{AreKept}
use Rattle.comb_run.specs.Operations.{kernel_at}
use Rattle.comb_run.proofs.act.acted_sum.Given as goal

-- what is left leads to the whole sum
abbrev pub invariant-loop-t : goal.invariant-loop-t
invariant-loop-t g l =
    let c = symbols g.R.StarRing l.category in
    let step = acted_step c l.action.strands.now l.action.gap (kernel_at c l.action.operator) (vector_of c.ring l.action.strands.now l.vector) l.path.items in
    record {
      sum : steps step l.t (c.count - l.t) l.sum ≡ steps step 0 c.count c.ring.zero;
      member : IsTrue (c.ring.member l.sum);
      kept : AreKept c.ring (kernel_at c l.action.operator) l.kernels;
    }
