use Rattle.std.proofs.Common.{ℕ}
use Rattle.arrayvec.specs.ArrayVec.{ArrayVec}
use Rattle.comb_run.proofs.KeptLemmas.{kept_put}
use Rattle.comb_run.proofs.kernels.Kernels.put.Goals as goal

pub returns-in-Ok-clause-ok : goal.returns-in-Ok-clause-ok
returns-in-Ok-clause-ok g c x =
    let q : ArrayVec ℕ = record { items = x } in
    rw (← c.self.view_is) (kept_put c.insert.new.self.entries c.self.inside.kept.entries c.args.labels.items x c.args.value (c.in-Ok.ensures.updates.0 q))
