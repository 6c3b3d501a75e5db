use Rattle.std.proofs.Common.{◌≡◌, ◌==◌, take, slice_index}
use Rattle.std.specs.List.{filter}
use Rattle.amp_store.specs.Places.{amplitudes_in}
use Rattle.amp_store.proofs.entry.with_label.Given as goal

-- of the entries so far those with the label are kept
abbrev pub invariant-loop-entry : goal.invariant-loop-entry
invariant-loop-entry g l = amplitudes_in l.kept.items ≡ filter (λ e. slice_index e.0 l.place == l.label) (take l.entry-index (amplitudes_in l.entries))
