use Rattle.std.proofs.Common.{◌≡◌, ◌++◌, ◌-◌}
use Rattle.comb_run.specs.Entries.{items_of, row_of, row_from}
use Rattle.comb_run.proofs.vector.push_row.Given as goal

-- the row so far, and what is left of it
abbrev pub invariant-loop-label : goal.invariant-loop-label
invariant-loop-label l =
    items_of l.paths.items ++ row_from l.label (l.count - l.label) l.k l.path.items ≡ items_of l.fn.paths.items ++ row_of l.count l.k l.path.items
