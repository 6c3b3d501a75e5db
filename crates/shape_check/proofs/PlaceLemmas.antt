-- Digits of places.
use Rattle.std.proofs.Common.{◌≡◌, ℕ, ◌+◌, ◌*◌, ◌<◌, ◌≤◌, refl, mul_comm, arith}
use Rattle.std.proofs.lemmas.Nat.{div-mul-add, mod-mul-add, mul-add-lt}
use Rattle.std.proofs.Math.Nat.{mul-le-mul_left, mul-le-mul_right, mod-eq_of_lt}
use Rattle.symbol_table.specs.Index.{AreSixLabels, AreThreeLabels, f_index, v_index}
use Rattle.shape_check.specs.Place.{six_at, six_place, three_at, three_place}

-- digits below m, and one digit more
pub one_more_room : (n x y m : ℕ) → y < n → x < m → x * n + y < m * n
one_more_room n x y m h k = rw (mul_comm m n) (mul-add-lt x n y m k h)

-- the same to a base of twelve at most
pub one_more : (n x y m : ℕ) → n ≤ 12 → y < n → x < m → x * n + y < m * 12
one_more n x y m few h k =
    let a : x * n + y < n * m = mul-add-lt x n y m k h in
    let b : n * m ≤ 12 * m = mul-le-mul_right m few in
    omega arith

-- the labels at the place of three labels are these
pub at_three : (n a b c : ℕ) → AreThreeLabels n a b c → three_at n (three_place n a b c) ≡ v_index a b c
at_three n a b c h =
    rw (mod-mul-add (a * n + b) n c h.2, div-mul-add (a * n + b) n c h.2)
    (rw (mod-mul-add a n b h.1, div-mul-add a n b h.1, mod-eq_of_lt h.0) refl)

-- the labels at the place of six labels are these
pub at_six : (n a b c d e f : ℕ) → AreSixLabels n a b c d e f → six_at n (six_place n a b c d e f) ≡ f_index a b c d e f
at_six n a b c d e f h =
    rw (mod-mul-add ((((a * n + b) * n + c) * n + d) * n + e) n f h.5, div-mul-add ((((a * n + b) * n + c) * n + d) * n + e) n f h.5)
    (rw (mod-mul-add (((a * n + b) * n + c) * n + d) n e h.4, div-mul-add (((a * n + b) * n + c) * n + d) n e h.4)
    (rw (mod-mul-add ((a * n + b) * n + c) n d h.3, div-mul-add ((a * n + b) * n + c) n d h.3)
    (rw (mod-mul-add (a * n + b) n c h.2, div-mul-add (a * n + b) n c h.2)
    (rw (mod-mul-add a n b h.1, div-mul-add a n b h.1, mod-eq_of_lt h.0) refl))))

-- the same for a count of digits
pub few_more : (n m : ℕ) → n ≤ 12 → m * n ≤ m * 12
few_more n m few = mul-le-mul_left m few
