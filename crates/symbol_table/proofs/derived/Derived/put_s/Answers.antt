use Rattle.symbol_table.proofs.SameLemmas.{on_ok, v_updates}
use Rattle.symbol_table.proofs.derived.Derived.put_s.Goals as goal

pub returns-clause-puts : goal.returns-clause-puts
returns-clause-puts g c = rw (← c.self.view_is) (on_ok c.put_value.result (v_updates c.self.inside.s c.put_value.new.values c.args.at c.args.value) c.put_value.ensures.updates)
