use Rattle.symbol_table.proofs.SameLemmas.{on_ok, f_updates}
use Rattle.symbol_table.proofs.derived.Derived.put_h.Goals as goal

pub returns-clause-puts : goal.returns-clause-puts
returns-clause-puts g c =
    rw (← c.self.view_is) (on_ok c.put_value.result (λ new a b k d f e. f_updates c.self.inside.h c.put_value.new.values c.args.at c.args.value new a b k d e f) c.put_value.ensures.updates)
