use Rattle.std.proofs.Common.{◌≡◌, ℕ, ◌*◌, ◌-◌, ◌%◌, sym, ap, ◌∙◌}
use Rattle.std.specs.Prelude.{IsTrue}
use Rattle.poly_core.specs.Gcd.{gcd}
use Rattle.poly_core.specs.Rho.{is_accepted, order}
use Rattle.poly_core.proofs.RhoLemmas.{order_is}
use Rattle.cyclo_core.specs.Image.{is_exponent, image_of, image_fits}
use Rattle.cyclo_core.proofs.ExponentLemmas.{parts_of, inverse_of}
use Rattle.cyclo_core.proofs.ImageLemmas.{star_maps, send_powers, compose, by_one, conjugate_is, conjugate_fits_is, same_inverse, same_units}
use Rattle.cyclo_core.proofs.laws.images.Goals as goal

unit : (N k : ℕ) → IsTrue (is_accepted N) → IsTrue (is_exponent N k) → gcd k (order N) ≡ 1
unit N k accepted h = let e = parts_of N k h in ap (gcd k) (order_is N accepted) ∙ e.coprime

modulo : (N a b : ℕ) → IsTrue (is_accepted N) → a % N ≡ b % N → a % order N ≡ b % order N
modulo N a b accepted e = ap (λ m. a % m) (order_is N accepted) ∙ e ∙ sym (ap (λ m. b % m) (order_is N accepted))

pub returns-clause-maps : goal.returns-clause-maps
returns-clause-maps c = λ k h. star_maps c.args._root k (unit c.args._root k c.requires h)

pub returns-clause-powers : goal.returns-clause-powers
returns-clause-powers c = λ k a h. send_powers c.args._root k a (unit c.args._root k c.requires h)

pub returns-clause-composed : goal.returns-clause-composed
returns-clause-composed c = λ k l m h w e x. compose c.args._root k l m (unit c.args._root k c.requires h) (unit c.args._root l c.requires w) (modulo c.args._root m (k * l) c.requires e) x

pub returns-clause-undone : goal.returns-clause-undone
returns-clause-undone c = λ k l h e x is.
    let N = c.args._root in
    let other = inverse_of N k c.requires h in
    let alike = same_inverse k l other.0 N e other.2 in
    let p = parts_of N other.0 other.1 in
    let unit_l : gcd l (order N) ≡ 1 = ap (gcd l) (order_is N c.requires) ∙ same_units l other.0 N alike p.coprime in
    compose N k l 1 (unit N k c.requires h) unit_l (modulo N 1 (k * l) c.requires (sym e)) x ∙ by_one N x is

pub returns-clause-inverses : goal.returns-clause-inverses
returns-clause-inverses c = λ k h. inverse_of c.args._root k c.requires h

pub returns-clause-conjugate : goal.returns-clause-conjugate
returns-clause-conjugate c =
    let N = c.args._root in
    record {
      value = λ x. conjugate_is N x ∙ ap (λ m. image_of N (m - 1) x) (order_is N c.requires);
      fits = λ x. conjugate_fits_is N x ∙ ap (λ m. image_fits N (m - 1) x) (order_is N c.requires);
    }
