use Rattle.std.proofs.Common.{◌≡◌, ℕ, List, take, true}
use Rattle.std.specs.Prelude.{is_some}
use Rattle.symbol_table.specs.Category.{draft_symbols}
use Rattle.comb_laws.specs.Operators.{acted}
use Rattle.comb_run.specs.Operations.{kernel_at}
use Rattle.comb_laws.specs.Operators.{kernel_of}
use Rattle.comb_run.specs.Evaluated.{acted_at}
use Rattle.comb_run.specs.Entries.{vector_of, items_of, entry_at}
use Rattle.amp_store.specs.Gathered.{gathered, among}
use Rattle.comb_run.specs.Kept.{AreKept}
use Rattle.comb_run.proofs.act.gather.Given as goal

-- the entries at the paths so far, whose items fit, and the kernels that are kept
abbrev pub invariant-loop-target : goal.invariant-loop-target
invariant-loop-target g l =
    let c = draft_symbols (g.R.StarRing.ring l.category.ring) g.R.StarRing.held l.category in
    let v = vector_of c.ring l.action.strands.now l.vector in
    let done = items_of (take l.target-index l.targets) in
    record {
      entries : (x : List ℕ) → entry_at l.action.after.now l.new x ≡ gathered c.held (acted c l.action.strands.now l.action.after.now l.action.gap (kernel_of c l.action.operator) v) done x;
      fits : (x : List ℕ) → among x done ≡ true → is_some (acted_at c l.action.strands.now l.action.after.now l.action.gap (kernel_at c l.action.operator) v x) ≡ true;
      kept : AreKept c.ring (kernel_at c l.action.operator) l.kernels;
    }
