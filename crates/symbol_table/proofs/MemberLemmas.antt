-- The values of H and S are of the ring.
use Rattle.std.proofs.Common.{◌≡◌, ℕ, Bool, true, false, Option, Some, ap, sym, ◌∙◌}
use Rattle.std.specs.Prelude.{IsTrue, IsSomeAnd, if◌then◌else◌}
use Rattle.ring_laws.specs.Ring.{Ring, Held, RingLaws}
use Rattle.ring_laws.proofs.SumLemmas.{zero-product}
use Rattle.symbol_table.specs.Symbols.{Given, f_admissible, h_of, s_of}

-- What zero and one do, and which values are members: as much of the laws of a ring as most proofs here need.
pub record HasZero {E : Type 0} (ring : Ring E) : Type 0 where
  pub zero_is : IsTrue (ring.member ring.zero)
  pub one_is : IsTrue (ring.member ring.one)
  pub product_is : (x y : E) → IsTrue (ring.member (ring.product x y))
  pub sum : ring.sum ring.zero ring.zero ≡ ring.zero
  pub left : (x : E) → ring.product ring.zero x ≡ ring.zero
  pub right : (x : E) → ring.product x ring.zero ≡ ring.zero
  pub conjugate : ring.conjugate ring.zero ≡ ring.zero

pub has_zero : {E : Type 0} {ring : Ring E} {held : Held E} → RingLaws ring held → HasZero ring
has_zero {E} {ring} laws = record {
  zero_is = laws.zero_is;
  one_is = laws.one_is;
  product_is = laws.product_is;
  sum = laws.sum-zero ring.zero laws.zero_is;
  left = zero-product laws;
  right = laws.product-zero;
  conjugate =
      ap ring.conjugate (sym (laws.product-zero (ring.conjugate ring.zero)))
      ∙ laws.conjugate-product (ring.conjugate ring.zero) ring.zero
      ∙ ap (λ y. ring.product y (ring.conjugate ring.zero)) (laws.conjugate-conjugate ring.zero laws.zero_is)
      ∙ zero-product laws (ring.conjugate ring.zero);
}

module _ {E : Type 0} (ring : Ring E) (basic : HasZero ring) where
  of_ring : (b : Bool) (x y : E) → IsTrue (ring.member (if b then ring.product x y else ring.zero))
  of_ring true x y = basic.product_is x y
  of_ring false x y = basic.zero_is

  pub h_member : (g : Given E) (a b c d f e : ℕ) → IsTrue (ring.member (h_of ring g a b c d f e))
  h_member g a b c d f e = of_ring (f_admissible g.fuse a b c d e f) _ _

  pub s_member : (g : Given E) (a b c : ℕ) → IsTrue (ring.member (s_of ring g a b c))
  s_member g a b c = of_ring (g.fuse a b c) _ _

-- what stands at an index
pub standing : {E : Type 0} (P : E → Type 0) (o : Option E) (x : E) → o ≡ Some x → P x → IsSomeAnd o P
standing P o x e p = rw e p
