-- A commutative ring with an involution, as meanings over values without bound.
use Rattle.std.specs.Prelude.{◌≡◌, ◌≢◌, ◌↔◌, IsTrue, Bool}

-- The operations and the fit tests of one ring. The operations take every value; their answers are members.
pub record Ring (E : Type 0) : Type 0 where
  pub member : E → Bool
  pub zero : E
  pub one : E
  pub sum : E → E → E
  pub product : E → E → E
  pub negative : E → E
  pub conjugate : E → E
  pub sum_fits : E → E → Bool
  pub product_fits : E → E → Bool
  pub conjugate_fits : E → Bool

-- What holds of an element alone, the same for every ring of its type: whether its type can hold it, whether it
-- is zero, whether two are equal.
pub record Held (E : Type 0) : Type 0 where
  pub can_hold : E → Bool
  pub is_zero : E → Bool
  pub equal : E → E → Bool

-- The laws of a commutative ring with an involution that respects sum and product, and three laws on fitting.
pub record RingLaws {E : Type 0} (R : Ring E) (H : Held E) : Type 0 where
  pub zero_is : IsTrue (R.member R.zero)
  pub one_is : IsTrue (R.member R.one)
  pub sum_is : (x y : E) → IsTrue (R.member (R.sum x y))
  pub product_is : (x y : E) → IsTrue (R.member (R.product x y))
  pub negative_is : (x : E) → IsTrue (R.member (R.negative x))
  pub conjugate_is : (x : E) → IsTrue (R.member (R.conjugate x))
  pub sum-zero : (x : E) → IsTrue (R.member x) → R.sum x R.zero ≡ x
  pub sum_comm : (x y : E) → R.sum x y ≡ R.sum y x
  pub sum_assoc : (x y z : E) → R.sum (R.sum x y) z ≡ R.sum x (R.sum y z)
  pub sum-negative : (x : E) → R.sum x (R.negative x) ≡ R.zero
  pub product-one : (x : E) → IsTrue (R.member x) → R.product x R.one ≡ x
  pub product-zero : (x : E) → R.product x R.zero ≡ R.zero
  pub product_comm : (x y : E) → R.product x y ≡ R.product y x
  pub product_assoc : (x y z : E) → R.product (R.product x y) z ≡ R.product x (R.product y z)
  pub product-sum : (x y z : E) → R.product x (R.sum y z) ≡ R.sum (R.product x y) (R.product x z)
  pub conjugate-conjugate : (x : E) → IsTrue (R.member x) → R.conjugate (R.conjugate x) ≡ x
  pub conjugate-sum : (x y : E) → R.conjugate (R.sum x y) ≡ R.sum (R.conjugate x) (R.conjugate y)
  pub conjugate-product : (x y : E) → R.conjugate (R.product x y) ≡ R.product (R.conjugate x) (R.conjugate y)
  pub one_apart : R.one ≢ R.zero
  pub equal_is : (x y : E) → IsTrue (H.equal x y) ↔ (x ≡ y)
  pub is_zero_is : (x : E) → IsTrue (R.member x) → IsTrue (H.is_zero x) ↔ (x ≡ R.zero)
  pub sum-zero_fits : (x : E) → IsTrue (R.member x) → IsTrue (H.can_hold x) → IsTrue (R.sum_fits x R.zero)
  pub product-zero_fits : (x : E) → IsTrue (R.member x) → IsTrue (H.can_hold x) → IsTrue (R.product_fits x R.zero)
  pub product-one_fits : (x : E) → IsTrue (R.member x) → IsTrue (H.can_hold x) → IsTrue (R.product_fits x R.one)
