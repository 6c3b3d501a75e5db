use Rattle.std.proofs.Common.{◌≤◌, ap, sym, subst, ◌∙◌, arith}
use Rattle.std.specs.Prelude.{unsigned_abs}
use Rattle.poly_core.specs.Rho.{rho}
use Rattle.poly_core.proofs.PowerLemmas.{rho_past}
use Rattle.poly_core.proofs.RhoLemmas.{totient_is}
use Rattle.category_maker.proofs.PowerLemmas.{accepted, power_number}
use Rattle.category_maker.proofs.powers.root_power.Goals as goal

pub reduced-requires : goal.reduced-requires
reduced-requires c = λ j past below.
    let same = totient_is c.args.ring.now (accepted c.args.ring.now (omega arith) c.requires.few) in
    ap (λ f. f j) (c.widened.ensures ∙ c.row.ensures.value ∙ ap (λ n. rho n c.args.k) c.requires.same) ∙ rho_past c.args.ring.now c.args.k j (omega arith)

pub unreachable-requires : goal.unreachable-requires
unreachable-requires c =
    let number = power_number c.widened.result (λ j. subst (λ f. unsigned_abs (f j) ≤ 1) (sym c.widened.ensures) (c.row.ensures.tiny j)) c.args.ring.now c.args.k (c.widened.ensures ∙ c.row.ensures.value ∙ ap (λ n. rho n c.args.k) c.requires.same) in
    let told = c.in-Err.ensures.value ∙ number in
    cc

pub returns-clause-value : goal.returns-clause-value
returns-clause-value c =
    let number = power_number c.widened.result (λ j. subst (λ f. unsigned_abs (f j) ≤ 1) (sym c.widened.ensures) (c.row.ensures.tiny j)) c.args.ring.now c.args.k (c.widened.ensures ∙ c.row.ensures.value ∙ ap (λ n. rho n c.args.k) c.requires.same) in
    let told = c.in-Ok.ensures.value ∙ number in
    cc
