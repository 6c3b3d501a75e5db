use Rattle.std.proofs.Common.{List, length, refl, ap, sym, ◌∙◌, subst, arith}
use Rattle.std.specs.Prelude.{ℤ, Bool, IsTrue}
use Rattle.poly_core.specs.Cyclotomic.{IsCyclotomic}
use Rattle.poly_core.specs.Rho.{polynomial}
use Rattle.poly_core.specs.Table.{whole_row}
use Rattle.poly_core.proofs.RhoLemmas.{accepted_is, degree_small}
use Rattle.poly_core.proofs.PowerLemmas.{low_length}
use Rattle.poly_core.proofs.QuotientLemmas.{cyclotomic_is}
use Rattle.poly_core.proofs.cyclotomic.Goals as goal

pub with_top-requires : goal.with_top-requires
with_top-requires c = omega (arith, ap length c.in-Some.ensures.value, low_length c.args.n, degree_small c.args.n)

pub returns-in-Some-clause-value : goal.returns-in-Some-clause-value
unfolding polynomial
returns-in-Some-clause-value c = c.with_top.ensures ∙ ap whole_row c.in-Some.ensures.value

pub returns-in-Some-clause-quotient : goal.returns-in-Some-clause-quotient
unfolding polynomial
returns-in-Some-clause-quotient c =
    let accepted = subst (λ (b : Bool). IsTrue b) (sym (accepted_is c.args.n)) (c.in-Some.ensures.listed.0 refl) in
    subst (λ (l : List ℤ). IsCyclotomic c.args.n l) (sym (c.with_top.ensures ∙ ap whole_row c.in-Some.ensures.value)) (cyclotomic_is c.args.n accepted)
