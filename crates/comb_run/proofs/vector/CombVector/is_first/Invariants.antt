use Rattle.std.proofs.Common.{◌≡◌, true, not, slice_set}
use Rattle.std.specs.Prelude.{is_some}
use Rattle.std.specs.List.{list_all}
use Rattle.comb_laws.specs.Paths.{labels}
use Rattle.comb_run.specs.Entries.{entry_at}
use Rattle.comb_run.proofs.vector.CombVector.is_first.Given as goal

-- none of the labels so far has an entry
abbrev pub invariant-loop-label : goal.invariant-loop-label
invariant-loop-label g l = list_all (λ m. not (is_some (entry_at l.strands l.self (slice_set l.path.items l.k m)))) (labels l.label) ≡ true
