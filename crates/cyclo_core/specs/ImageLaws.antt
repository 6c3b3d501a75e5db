-- The laws of images: they are maps of rings, and compose as their exponents multiply.
use Rattle.std.specs.Prelude.{◌≡◌, ℕ, ◌*◌, ◌-◌, ◌%◌, IsTrue}
use Rattle.ring_laws.specs.Ring.{Ring}
use Rattle.cyclo_core.specs.Image.{is_exponent, image_of, image_fits, power_of}
use Rattle.cyclo_core.specs.Ratio.{Ratio, ring_at}

-- A map of a ring with an involution to itself: it keeps zero and one, sums, products, negatives and conjugates, and
-- its values are members.
pub record IsStarMap {E : Type 0} (r : Ring E) (F : E → E) : Type 0 where
  pub member : (x : E) → IsTrue (r.member (F x))
  pub zero : F r.zero ≡ r.zero
  pub one : F r.one ≡ r.one
  pub sum : (x y : E) → F (r.sum x y) ≡ r.sum (F x) (F y)
  pub product : (x y : E) → F (r.product x y) ≡ r.product (F x) (F y)
  pub negative : (x : E) → F (r.negative x) ≡ r.negative (F x)
  pub conjugate : (x : E) → F (r.conjugate x) ≡ r.conjugate (F x)

-- Each image is a map of the ring of the root.
abbrev pub AreStarMaps : ℕ → Type 0
AreStarMaps N = (k : ℕ) → IsTrue (is_exponent N k) → IsStarMap (ring_at N) (image_of N k)

-- It sends each power of z to that power of z^k.
abbrev pub SendPowers : ℕ → Type 0
SendPowers N = (k a : ℕ) → IsTrue (is_exponent N k) → image_of N k (power_of N a) ≡ power_of N (a * k)

-- The image by k and then by l is the one by k l modulo N.
abbrev pub Compose : ℕ → Type 0
Compose N = (k l m : ℕ) → IsTrue (is_exponent N k) → IsTrue (is_exponent N l) → m % N ≡ (k * l) % N → (x : Ratio) → image_of N l (image_of N k x) ≡ image_of N m x

-- Where k l is 1 modulo N, the image by l undoes the one by k.
abbrev pub Undo : ℕ → Type 0
Undo N = (k l : ℕ) → IsTrue (is_exponent N k) → (k * l) % N ≡ 1 % N → (x : Ratio) → IsTrue ((ring_at N).member x) → image_of N l (image_of N k x) ≡ x

-- Each k has such an l.
abbrev pub HaveInverses : ℕ → Type 0
HaveInverses N = (k : ℕ) → IsTrue (is_exponent N k) → (l : ℕ) × IsTrue (is_exponent N l) × ((k * l) % N ≡ 1 % N)

-- The conjugate is the image by N - 1, and the one fits where the other does.
pub record ConjugateIsImage (N : ℕ) : Type 0 where
  pub value : (x : Ratio) → (ring_at N).conjugate x ≡ image_of N (N - 1) x
  pub fits : (x : Ratio) → (ring_at N).conjugate_fits x ≡ image_fits N (N - 1) x
