use Rattle.symbol_table.specs.Draft.{DraftValue, given}
use Rattle.symbol_table.proofs.MemberLemmas.{has_zero}
use Rattle.symbol_table.proofs.Proper.{gives_members, is_of_ring}
use Rattle.symbol_table.proofs.draft.Draft.f_is_of_ring.Goals as goal

pub returns : goal.returns
returns g c =
    let ring = g.R.StarRing.ring c.self.inside.ring in
    let draft : DraftValue _ _ =
    record { version = c.self.inside.version; ring = c.self.inside.ring; rules = c.self.inside.rules; set_f = c.self.inside.f.entries; set_r = c.self.inside.r.entries; set_w = c.self.inside.w.entries; set_v = c.self.inside.v.entries; set_twist = c.self.inside.twist.entries; set_loop = c.self.inside.loop_value.entries } in
    rw (← c.self.view_is) (is_of_ring ring g.R.StarRing.held (has_zero (g.met.R.StarRing.laws c.self.inside.ring)) (given draft) (gives_members ring draft c.self.invariant))
