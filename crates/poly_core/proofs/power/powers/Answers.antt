use Rattle.std.proofs.Common.{length, refl, ap, sym, ◌∙◌, arith, subst}
use Rattle.std.specs.Prelude.{IsTrue, Bool}
use Rattle.poly_core.proofs.RhoLemmas.{accepted_is, degree_small}
use Rattle.poly_core.proofs.PowerLemmas.{low_length}
use Rattle.poly_core.proofs.power.powers.Goals as goal

pub overflow_cast-result : goal.overflow_cast-result
overflow_cast-result c = omega (arith, ap length c.in-Some.ensures.value, low_length c.args.n, degree_small c.args.n)

pub invariant_of-result : goal.invariant_of-result
invariant_of-result c =
    let accepted = subst (λ (b : Bool). IsTrue b) (sym (accepted_is c.args.n)) (c.in-Some.ensures.listed.0 refl) in
    (accepted, ap length c.in-Some.ensures.value ∙ low_length c.args.n, c.rows_of.ensures)
