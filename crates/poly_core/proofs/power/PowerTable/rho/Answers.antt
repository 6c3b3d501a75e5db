use Rattle.std.proofs.Common.{◌≡◌, ◌≤◌, sym, arith, subst, rules}
use Rattle.std.specs.Prelude.{ℤ, unsigned_abs}
use mir.Val.{to_z, of_z}
use mir.Syntax.{w64}
use Rattle.poly_core.specs.Rho.{rho}
use Rattle.poly_core.proofs.RhoLemmas.{totient_is, degree_small, accepted_small, rho_tiny}
use Rattle.poly_core.proofs.power.PowerTable.rho.Goals as goal

pub bounds-self-inside-from : goal.bounds-self-inside-from
bounds-self-inside-from c =
    let small = accepted_small _ c.self.invariant.0 in
    omega (arith, small, c.self.view_is, c.from.ensures)

pub bounds-self-inside-from-2 : goal.bounds-self-inside-from-2
bounds-self-inside-from-2 c =
    let few = degree_small c.self.inside.root in
    let same = totient_is c.self.inside.root c.self.invariant.0 in
    let place = rw (← c.self.view_is) at c.requires.place in
    omega (arith, few, same, place, c.from-2.ensures)

value_is : (c : goal.After-from-3) → to_z w64 (of_z w64 c.from-3.result) ≡ rho c.args.self.now c.args.k c.args.j
value_is c = first_of (search rules, grind arith)

pub returns-clause-tiny : goal.returns-clause-tiny
returns-clause-tiny c = subst (λ (z : ℤ). unsigned_abs z ≤ 1) (sym (value_is c)) (rho_tiny c.args.self.now c.args.k c.args.j)
