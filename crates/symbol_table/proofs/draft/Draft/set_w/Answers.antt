use Rattle.symbol_table.specs.Index.{v_cmp}
use Rattle.symbol_table.proofs.SameLemmas.{members_kept, on_ok, v_updates}
use Rattle.symbol_table.proofs.draft.Draft.set_w.Goals as goal

pub invariant_of-self : goal.invariant_of-self
invariant_of-self g c = record { f = c.self.invariant.f; r = c.self.invariant.r; w = members_kept (g.R.StarRing.ring c.self.inside.ring) v_cmp c.set_value.result _ _ _ c.args.at c.args.value c.set_value.ensures.told c.self.invariant.w (rw (← c.self.view_is) at c.requires.member); v = c.self.invariant.v; twist = c.self.invariant.twist; loop_value = c.self.invariant.loop_value; versioned = c.self.invariant.versioned }

pub returns-clause-sets : goal.returns-clause-sets
returns-clause-sets g c = rw (← c.self.view_is) (on_ok c.set_value.result (v_updates c.self.inside.w c.set_value.new.values c.args.at c.args.value) c.set_value.ensures.updates)
