use Rattle.amp_store.proofs.EditLemmas.{no_amplitudes}
use Rattle.amp_store.proofs.store.Amps.new.Goals as goal

pub invariant_of-result : goal.invariant_of-result
invariant_of-result g c = rw c.new.ensures.items (no_amplitudes g.R.StarRing.held)
