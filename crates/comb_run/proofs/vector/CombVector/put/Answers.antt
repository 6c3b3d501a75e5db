use Rattle.comb_run.proofs.EntryLemmas.{put_is}
use Rattle.comb_run.proofs.vector.CombVector.put.Goals as goal

pub returns-in-Ok-clause-ok : goal.returns-in-Ok-clause-ok
returns-in-Ok-clause-ok g c strands x =
    rw (← c.self.view_is) (put_is c.insert.new.self.entries c.self.inside.entries.entries c.args.key.items c.args.value (λ q. c.in-Ok.ensures.updates.0 (record { items = q })) strands x)
