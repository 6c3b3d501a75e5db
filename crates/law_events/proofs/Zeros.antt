-- What is zero where labels don't fuse: F off its admissible indices, and a product with a factor zero.
use Rattle.std.proofs.Common.{◌≡◌, ℕ, Bool, true, false, ◌&&◌, refl, ap, ◌∙◌}
use Rattle.ring_laws.specs.Ring.{Ring, Held, RingLaws}
use Rattle.ring_laws.proofs.SumLemmas.{if_no, zero-product}
use Rattle.symbol_table.specs.Symbols.{Given, f_admissible, f_of}
use Rattle.symbol_table.proofs.Equations.{first_off, second_off, third_off, fourth_off}

-- one of three tests fails
pub one_of_three : {P : Type 0} (x y z : Bool) → (x ≡ false → P) → (y ≡ false → P) → (z ≡ false → P) → (x && (y && z)) ≡ false → P
one_of_three false y z p q r e = p refl
one_of_three true false z p q r e = q refl
one_of_three true true z p q r e = r e

module _ {E : Type 0} (ring : Ring E) (g : Given E) (a b c d e f : ℕ) where
  f_zero : f_admissible g.fuse a b c d e f ≡ false → f_of ring g a b c d e f ≡ ring.zero
  f_zero off = if_no (f_admissible g.fuse a b c d e f) _ ring.zero off

  -- F(a,b,c,d;e,f) is zero off each of its four vertices
  pub f_zero_first : g.fuse a b e ≡ false → f_of ring g a b c d e f ≡ ring.zero
  f_zero_first off = f_zero (first_off (g.fuse a b e) (g.fuse e c d) (g.fuse b c f) (g.fuse a f d) off)

  pub f_zero_second : g.fuse e c d ≡ false → f_of ring g a b c d e f ≡ ring.zero
  f_zero_second off = f_zero (second_off (g.fuse a b e) (g.fuse e c d) (g.fuse b c f) (g.fuse a f d) off)

  pub f_zero_third : g.fuse b c f ≡ false → f_of ring g a b c d e f ≡ ring.zero
  f_zero_third off = f_zero (third_off (g.fuse a b e) (g.fuse e c d) (g.fuse b c f) (g.fuse a f d) off)

  pub f_zero_fourth : g.fuse a f d ≡ false → f_of ring g a b c d e f ≡ ring.zero
  f_zero_fourth off = f_zero (fourth_off (g.fuse a b e) (g.fuse e c d) (g.fuse b c f) (g.fuse a f d) off)

module _ {E : Type 0} (ring : Ring E) (held : Held E) (laws : RingLaws ring held) where
  pub left_gone : (x y : E) → x ≡ ring.zero → ring.product x y ≡ ring.zero
  left_gone x y e = ap (λ v. ring.product v y) e ∙ zero-product laws y

  pub first_gone : (x y z : E) → x ≡ ring.zero → ring.product (ring.product x y) z ≡ ring.zero
  first_gone x y z e = left_gone (ring.product x y) z (left_gone x y e)

  pub second_gone : (x y z : E) → y ≡ ring.zero → ring.product (ring.product x y) z ≡ ring.zero
  second_gone x y z e = left_gone (ring.product x y) z (ap (ring.product x) e ∙ laws.product-zero x)

  pub third_gone : (x y z : E) → z ≡ ring.zero → ring.product (ring.product x y) z ≡ ring.zero
  third_gone x y z e = ap (ring.product (ring.product x y)) e ∙ laws.product-zero (ring.product x y)

  pub right_gone : (x y : E) → y ≡ ring.zero → ring.product x y ≡ ring.zero
  right_gone x y e = ap (ring.product x) e ∙ laws.product-zero x
