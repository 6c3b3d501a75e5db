use Rattle.symbol_table.specs.Index.{f_cmp}
use Rattle.symbol_table.proofs.SameLemmas.{members_kept, on_ok, f_updates}
use Rattle.symbol_table.proofs.draft.Draft.set_f.Goals as goal

pub invariant_of-self : goal.invariant_of-self
invariant_of-self g c = record { f = members_kept (g.R.StarRing.ring c.self.inside.ring) f_cmp c.set_value.result _ _ _ c.args.at c.args.value c.set_value.ensures.told c.self.invariant.f (rw (← c.self.view_is) at c.requires.member); r = c.self.invariant.r; w = c.self.invariant.w; v = c.self.invariant.v; twist = c.self.invariant.twist; loop_value = c.self.invariant.loop_value; versioned = c.self.invariant.versioned }

pub returns-clause-sets : goal.returns-clause-sets
returns-clause-sets g c = rw (← c.self.view_is) (on_ok c.set_value.result (f_updates c.self.inside.f c.set_value.new.values c.args.at c.args.value) c.set_value.ensures.updates)
