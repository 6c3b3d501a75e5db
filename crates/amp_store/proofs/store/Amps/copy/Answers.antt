use Rattle.std.proofs.Common.{◌∙◌}
use Rattle.amp_store.proofs.CopyLemmas.{copies_say}
use Rattle.amp_store.proofs.store.Amps.copy.Goals as goal

pub invariant_of-result : goal.invariant_of-result
invariant_of-result g c = rw (copies_say c.self.inside.entries.items c.in_ok-clone.field-0.items c.in_ok-clone.ensures.cases.0) c.self.invariant

pub returns : goal.returns
returns g c = copies_say c.self.inside.entries.items c.in_ok-clone.field-0.items c.in_ok-clone.ensures.cases.0 ∙ c.self.view_is
