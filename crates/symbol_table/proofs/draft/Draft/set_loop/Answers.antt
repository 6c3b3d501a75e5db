use Rattle.symbol_table.proofs.SameLemmas.{marks_kept, mark_updates, on_ok, second_versioned}
use Rattle.symbol_table.proofs.draft.Draft.set_loop.Goals as goal

pub invariant_of-self : goal.invariant_of-self
invariant_of-self g c = record {
  f = c.self.invariant.f;
  r = c.self.invariant.r;
  w = c.self.invariant.w;
  v = c.self.invariant.v;
  twist = c.self.invariant.twist;
  loop_value = marks_kept (g.R.StarRing.ring c.self.inside.ring) c.set_mark.result _ _ _ c.args.a c.args.value c.set_mark.ensures.told c.self.invariant.loop_value (rw (← c.self.view_is) at c.requires.member);
  versioned = second_versioned _ _ _ (rw (← c.self.view_is) at c.requires.version);
}

pub returns-clause-sets : goal.returns-clause-sets
returns-clause-sets g c = rw (← c.self.view_is) (on_ok c.set_mark.result (mark_updates c.self.inside.loop_value c.set_mark.new.values c.args.a c.args.value) c.set_mark.ensures.updates)
