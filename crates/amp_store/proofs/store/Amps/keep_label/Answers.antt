use Rattle.std.proofs.Common.{◌==◌, subst, sym, slice_index, List, ℕ}
use Rattle.amp_store.specs.Amplitudes.{AreAmplitudes}
use Rattle.amp_store.specs.Places.{amplitudes_in}
use Rattle.amp_store.specs.declared.entry.Entry.{Entry}
use Rattle.amp_store.proofs.CopyLemmas.{amplitudes_part}
use Rattle.amp_store.proofs.store.Amps.keep_label.Goals as goal

pub invariant_of-result : goal.invariant_of-result
invariant_of-result g c =
    subst (λ (es : List (List ℕ × g.row.R-Elem.Denot)). AreAmplitudes g.R.StarRing.held es) (sym c.in_ok-with_label.ensures)
    (amplitudes_part (λ (e : List ℕ × g.row.R-Elem.Denot). slice_index e.0 c.args.place == c.args.label) g.R.StarRing.held _
    (subst (λ (es : List (Entry g.row.R.Denot g.row.R-Elem.Denot)). AreAmplitudes g.R.StarRing.held (amplitudes_in es)) (sym c.deref.ensures.value) c.self.invariant))
