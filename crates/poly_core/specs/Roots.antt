-- The accepted roots, each with Phi_N.
use Rattle.std.specs.Prelude.{ℕ, Bool, true, false, ◌&&◌, cond, List, [], ◌∷◌, pos, negsuc, IsTrue, refl}
use Rattle.std.proofs.Common.{eqb}
use Rattle.poly_core.specs.Gcd.{gcd, totient}
use Rattle.poly_core.specs.Good.{Root, IsGood, good, passes}
use Rattle.poly_core.specs.Table.{both}

abbrev pub roots : List Root
roots =
    (record { order = 1; less_one = 0; low = negsuc 0 ∷ [] }) ∷
    (record { order = 2; less_one = 0; low = pos 1 ∷ [] }) ∷
    (record { order = 3; less_one = 1; low = pos 1 ∷ pos 1 ∷ [] }) ∷
    (record { order = 4; less_one = 1; low = pos 1 ∷ pos 0 ∷ [] }) ∷
    (record { order = 5; less_one = 3; low = pos 1 ∷ pos 1 ∷ pos 1 ∷ pos 1 ∷ [] }) ∷
    (record { order = 6; less_one = 1; low = pos 1 ∷ negsuc 0 ∷ [] }) ∷
    (record { order = 7; less_one = 5; low = pos 1 ∷ pos 1 ∷ pos 1 ∷ pos 1 ∷ pos 1 ∷ pos 1 ∷ [] }) ∷
    (record { order = 8; less_one = 3; low = pos 1 ∷ pos 0 ∷ pos 0 ∷ pos 0 ∷ [] }) ∷
    (record { order = 9; less_one = 5; low = pos 1 ∷ pos 0 ∷ pos 0 ∷ pos 1 ∷ pos 0 ∷ pos 0 ∷ [] }) ∷
    (record { order = 10; less_one = 3; low = pos 1 ∷ negsuc 0 ∷ pos 1 ∷ negsuc 0 ∷ [] }) ∷
    (record { order = 11; less_one = 9; low = pos 1 ∷ pos 1 ∷ pos 1 ∷ pos 1 ∷ pos 1 ∷ pos 1 ∷ pos 1 ∷ pos 1 ∷ pos 1 ∷ pos 1 ∷ [] }) ∷
    (record { order = 12; less_one = 3; low = pos 1 ∷ pos 0 ∷ negsuc 0 ∷ pos 0 ∷ [] }) ∷
    (record { order = 13; less_one = 11; low = pos 1 ∷ pos 1 ∷ pos 1 ∷ pos 1 ∷ pos 1 ∷ pos 1 ∷ pos 1 ∷ pos 1 ∷ pos 1 ∷ pos 1 ∷ pos 1 ∷ pos 1 ∷ [] }) ∷
    (record { order = 14; less_one = 5; low = pos 1 ∷ negsuc 0 ∷ pos 1 ∷ negsuc 0 ∷ pos 1 ∷ negsuc 0 ∷ [] }) ∷
    (record { order = 15; less_one = 7; low = pos 1 ∷ negsuc 0 ∷ pos 0 ∷ pos 1 ∷ negsuc 0 ∷ pos 1 ∷ pos 0 ∷ negsuc 0 ∷ [] }) ∷
    (record { order = 16; less_one = 7; low = pos 1 ∷ pos 0 ∷ pos 0 ∷ pos 0 ∷ pos 0 ∷ pos 0 ∷ pos 0 ∷ pos 0 ∷ [] }) ∷
    (record { order = 17; less_one = 15; low = pos 1 ∷ pos 1 ∷ pos 1 ∷ pos 1 ∷ pos 1 ∷ pos 1 ∷ pos 1 ∷ pos 1 ∷ pos 1 ∷ pos 1 ∷ pos 1 ∷ pos 1 ∷ pos 1 ∷ pos 1 ∷ pos 1 ∷ pos 1 ∷ [] }) ∷
    (record { order = 18; less_one = 5; low = pos 1 ∷ pos 0 ∷ pos 0 ∷ negsuc 0 ∷ pos 0 ∷ pos 0 ∷ [] }) ∷
    (record { order = 20; less_one = 7; low = pos 1 ∷ pos 0 ∷ negsuc 0 ∷ pos 0 ∷ pos 1 ∷ pos 0 ∷ negsuc 0 ∷ pos 0 ∷ [] }) ∷
    (record { order = 21; less_one = 11; low = pos 1 ∷ negsuc 0 ∷ pos 0 ∷ pos 1 ∷ negsuc 0 ∷ pos 0 ∷ pos 1 ∷ pos 0 ∷ negsuc 0 ∷ pos 1 ∷ pos 0 ∷ negsuc 0 ∷ [] }) ∷
    (record { order = 22; less_one = 9; low = pos 1 ∷ negsuc 0 ∷ pos 1 ∷ negsuc 0 ∷ pos 1 ∷ negsuc 0 ∷ pos 1 ∷ negsuc 0 ∷ pos 1 ∷ negsuc 0 ∷ [] }) ∷
    (record { order = 24; less_one = 7; low = pos 1 ∷ pos 0 ∷ pos 0 ∷ pos 0 ∷ negsuc 0 ∷ pos 0 ∷ pos 0 ∷ pos 0 ∷ [] }) ∷
    (record { order = 26; less_one = 11; low = pos 1 ∷ negsuc 0 ∷ pos 1 ∷ negsuc 0 ∷ pos 1 ∷ negsuc 0 ∷ pos 1 ∷ negsuc 0 ∷ pos 1 ∷ negsuc 0 ∷ pos 1 ∷ negsuc 0 ∷ [] }) ∷
    (record { order = 28; less_one = 11; low = pos 1 ∷ pos 0 ∷ negsuc 0 ∷ pos 0 ∷ pos 1 ∷ pos 0 ∷ negsuc 0 ∷ pos 0 ∷ pos 1 ∷ pos 0 ∷ negsuc 0 ∷ pos 0 ∷ [] }) ∷
    (record { order = 30; less_one = 7; low = pos 1 ∷ pos 1 ∷ pos 0 ∷ negsuc 0 ∷ negsuc 0 ∷ negsuc 0 ∷ pos 0 ∷ pos 1 ∷ [] }) ∷
    (record { order = 32; less_one = 15; low = pos 1 ∷ pos 0 ∷ pos 0 ∷ pos 0 ∷ pos 0 ∷ pos 0 ∷ pos 0 ∷ pos 0 ∷ pos 0 ∷ pos 0 ∷ pos 0 ∷ pos 0 ∷ pos 0 ∷ pos 0 ∷ pos 0 ∷ pos 0 ∷ [] }) ∷
    (record { order = 34; less_one = 15; low = pos 1 ∷ negsuc 0 ∷ pos 1 ∷ negsuc 0 ∷ pos 1 ∷ negsuc 0 ∷ pos 1 ∷ negsuc 0 ∷ pos 1 ∷ negsuc 0 ∷ pos 1 ∷ negsuc 0 ∷ pos 1 ∷ negsuc 0 ∷ pos 1 ∷ negsuc 0 ∷ [] }) ∷
    (record { order = 36; less_one = 11; low = pos 1 ∷ pos 0 ∷ pos 0 ∷ pos 0 ∷ pos 0 ∷ pos 0 ∷ negsuc 0 ∷ pos 0 ∷ pos 0 ∷ pos 0 ∷ pos 0 ∷ pos 0 ∷ [] }) ∷
    (record { order = 40; less_one = 15; low = pos 1 ∷ pos 0 ∷ pos 0 ∷ pos 0 ∷ negsuc 0 ∷ pos 0 ∷ pos 0 ∷ pos 0 ∷ pos 1 ∷ pos 0 ∷ pos 0 ∷ pos 0 ∷ negsuc 0 ∷ pos 0 ∷ pos 0 ∷ pos 0 ∷ [] }) ∷
    (record { order = 42; less_one = 11; low = pos 1 ∷ pos 1 ∷ pos 0 ∷ negsuc 0 ∷ negsuc 0 ∷ pos 0 ∷ pos 1 ∷ pos 0 ∷ negsuc 0 ∷ negsuc 0 ∷ pos 0 ∷ pos 1 ∷ [] }) ∷
    (record { order = 48; less_one = 15; low = pos 1 ∷ pos 0 ∷ pos 0 ∷ pos 0 ∷ pos 0 ∷ pos 0 ∷ pos 0 ∷ pos 0 ∷ negsuc 0 ∷ pos 0 ∷ pos 0 ∷ pos 0 ∷ pos 0 ∷ pos 0 ∷ pos 0 ∷ pos 0 ∷ [] }) ∷
    (record { order = 60; less_one = 15; low = pos 1 ∷ pos 0 ∷ pos 1 ∷ pos 0 ∷ pos 0 ∷ pos 0 ∷ negsuc 0 ∷ pos 0 ∷ negsuc 0 ∷ pos 0 ∷ negsuc 0 ∷ pos 0 ∷ pos 0 ∷ pos 0 ∷ pos 1 ∷ pos 0 ∷ [] }) ∷
    []

abbrev pub all_pass : List Root → Bool
all_pass [] = true
all_pass (r ∷ rs) = passes r && all_pass rs

-- the root of an order, or the last one tried
abbrev pub root_of : ℕ → Root → List Root → Root
root_of n other [] = other
root_of n other (r ∷ rs) = cond (eqb r.order n) r (root_of n other rs)

-- whether there is a root of this order
abbrev pub listed_in : ℕ → List Root → Bool
listed_in n [] = false
listed_in n (r ∷ rs) = cond (eqb r.order n) true (listed_in n rs)

unfoldable pub is_listed : ℕ → Bool
is_listed n = listed_in n roots

IsGood-root_of : (n : ℕ) (other : Root) → IsGood other → (rs : List Root) → IsTrue (all_pass rs) → IsGood (root_of n other rs)
IsGood-root_of n other g [] h = g
IsGood-root_of n other g (r ∷ rs) h =
    let parts = both (passes r) (all_pass rs) h in
    pick (eqb r.order n) (good r parts.0) (IsGood-root_of n other g rs parts.1)
  where
    pick : (b : Bool) → {x y : Root} → IsGood x → IsGood y → IsGood (cond b x y)
    pick true p q = p
    pick false p q = q

abbrev pub first_root : Root
first_root = record { order = 1; less_one = 0; low = negsuc 0 ∷ [] }

-- the root of any number: that of 1, where the number is no accepted root
unfoldable pub root_at : ℕ → Root
root_at n = root_of n first_root roots

pub IsGood-root_at : (n : ℕ) → IsGood (root_at n)
unfolding root_at gcd totient
IsGood-root_at n = IsGood-root_of n first_root (good first_root refl) roots refl
