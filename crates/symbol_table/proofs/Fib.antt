-- The Fibonacci category over the whole numbers with a fifth root of unity, for worked values.
use Rattle.std.specs.Prelude.{ℕ, zero, suc, Bool, true, ◌&&◌, nat_eq, List, [], ◌∷◌, ℤ, pos, negsuc, ◌+ℤ◌, ◌-ℤ◌, ◌*ℤ◌, neg_ℤ, nat_abs, nat_lt, ◌+◌, ◌*◌, if◌then◌else◌}
use Rattle.std.specs.Prelude.{Option, Some, None}
use Rattle.ring_laws.specs.Ring.{Ring, Held}
use Rattle.ring_laws.specs.Whole.{int_equal}
use Rattle.symbol_table.specs.Symbols.{Given, Symbols, symbols_of}

-- a sum of whole multiples of 1, z, z^2 and z^3
pub record Whole5 : Type 0 where
  pub c0 : ℤ
  pub c1 : ℤ
  pub c2 : ℤ
  pub c3 : ℤ

abbrev pub num : ℤ → ℤ → ℤ → ℤ → Whole5
num a b c d = record { c0 = a; c1 = b; c2 = c; c3 = d }

abbrev pub plus5 : Whole5 → Whole5 → Whole5
plus5 x y = num (x.c0 +ℤ y.c0) (x.c1 +ℤ y.c1) (x.c2 +ℤ y.c2) (x.c3 +ℤ y.c3)

-- z^4 = -1 - z - z^2 - z^3, z^5 = 1 and z^6 = z
abbrev pub reduced : ℤ → ℤ → ℤ → ℤ → ℤ → ℤ → ℤ → Whole5
reduced p0 p1 p2 p3 p4 p5 p6 = num ((p0 -ℤ p4) +ℤ p5) ((p1 -ℤ p4) +ℤ p6) (p2 -ℤ p4) (p3 -ℤ p4)

abbrev pub times5 : Whole5 → Whole5 → Whole5
times5 x y =
    reduced (x.c0 *ℤ y.c0)
    ((x.c0 *ℤ y.c1) +ℤ (x.c1 *ℤ y.c0))
    (((x.c0 *ℤ y.c2) +ℤ (x.c1 *ℤ y.c1)) +ℤ (x.c2 *ℤ y.c0))
    ((((x.c0 *ℤ y.c3) +ℤ (x.c1 *ℤ y.c2)) +ℤ (x.c2 *ℤ y.c1)) +ℤ (x.c3 *ℤ y.c0))
    (((x.c1 *ℤ y.c3) +ℤ (x.c2 *ℤ y.c2)) +ℤ (x.c3 *ℤ y.c1))
    ((x.c2 *ℤ y.c3) +ℤ (x.c3 *ℤ y.c2))
    (x.c3 *ℤ y.c3)

abbrev pub conjugate5 : Whole5 → Whole5
conjugate5 x = num (x.c0 -ℤ x.c1) (neg_ℤ x.c1) (x.c3 -ℤ x.c1) (x.c2 -ℤ x.c1)

abbrev pub is_zero5 : Whole5 → Bool
is_zero5 x = nat_eq (nat_abs x.c0) 0 && nat_eq (nat_abs x.c1) 0 && nat_eq (nat_abs x.c2) 0 && nat_eq (nat_abs x.c3) 0

abbrev pub ring5 : Ring Whole5
ring5 = record {
  member = λ x. true;
  zero = num (pos 0) (pos 0) (pos 0) (pos 0);
  one = num (pos 1) (pos 0) (pos 0) (pos 0);
  sum = plus5;
  product = times5;
  negative = λ x. num (neg_ℤ x.c0) (neg_ℤ x.c1) (neg_ℤ x.c2) (neg_ℤ x.c3);
  conjugate = conjugate5;
  sum_fits = λ x y. true;
  product_fits = λ x y. true;
  conjugate_fits = λ x. true;
}

abbrev pub held5 : Held Whole5
held5 = record {
  can_hold = λ x. true;
  is_zero = is_zero5;
  equal = λ x y. int_equal x.c0 y.c0 && (int_equal x.c1 y.c1 && (int_equal x.c2 y.c2 && int_equal x.c3 y.c3));
}

abbrev pub fuse5 : ℕ → ℕ → ℕ → Bool
fuse5 zero b c = nat_eq b c && nat_lt b 2
fuse5 (suc a) zero c = nat_eq (suc a) c && nat_lt c 2
fuse5 (suc a) (suc b) c = nat_lt a 1 && (nat_lt b 1 && nat_lt c 2)

-- the value listed for an index in base ten
abbrev pub listed : List (ℕ × Whole5) → ℕ → Option Whole5
listed [] n = None
listed (e ∷ es) n = if nat_eq e.0 n then Some e.1 else listed es n

abbrev pub f_listed : List (ℕ × Whole5) → ℕ → ℕ → ℕ → ℕ → ℕ → ℕ → Option Whole5
f_listed es a b c d e f = listed es (100000 * a + 10000 * b + 1000 * c + 100 * d + 10 * e + f)

abbrev pub v_listed : List (ℕ × Whole5) → ℕ → ℕ → ℕ → Option Whole5
v_listed es a b c = listed es (100 * a + 10 * b + c)

abbrev pub inverse_golden : Whole5
inverse_golden = num (negsuc 0) (pos 0) (negsuc 0) (negsuc 0)

-- the Fibonacci category, with the labels 1 and t as 0 and 1
abbrev pub fib_given : Given Whole5
fib_given = record {
  version = 1;
  count = 2;
  fuse = fuse5;
  set_f = f_listed ((111100, inverse_golden) ∷ (111101, inverse_golden) ∷ (111111, num (pos 1) (pos 0) (pos 1) (pos 1)) ∷ []);
  set_r = v_listed ((110, num (pos 0) (pos 0) (pos 0) (pos 1)) ∷ (111, num (pos 1) (pos 1) (pos 1) (pos 1)) ∷ []);
  set_w = v_listed ((110, inverse_golden) ∷ []);
  set_v = v_listed ((110, num (pos 0) (pos 0) (negsuc 0) (negsuc 0)) ∷ []);
  set_twist = λ a. None;
  set_loop = λ a. None;
}

abbrev pub fib : Symbols Whole5
fib = symbols_of ring5 held5 fib_given

-- the same in version 2: the twist of t is z^2, and its loop value the golden ratio
abbrev pub golden : Whole5
golden = num (pos 0) (pos 0) (negsuc 0) (negsuc 0)

abbrev pub fib2_given : Given Whole5
fib2_given = record fib_given {
  version = 2;
  set_twist = listed ((1, num (pos 0) (pos 0) (pos 1) (pos 0)) ∷ []);
  set_loop = listed ((1, golden) ∷ []);
}

abbrev pub fib2 : Symbols Whole5
fib2 = symbols_of ring5 held5 fib2_given

abbrev pub whole : ℕ → Whole5
whole n = num (pos n) (pos 0) (pos 0) (pos 0)

-- no category: three labels that all fuse, and a number of its own at each index that is read
abbrev pub numbered : Given Whole5
numbered = record {
  version = 1;
  count = 3;
  fuse = λ a b c. true;
  set_f = f_listed ((120102, whole 2) ∷ (120112, whole 3) ∷ (102102, whole 5) ∷ (102112, whole 7) ∷ []);
  set_r = v_listed ((210, whole 11) ∷ (120, whole 13) ∷ []);
  set_w = v_listed ((120, whole 17) ∷ (210, whole 19) ∷ []);
  set_v = v_listed ((120, whole 23) ∷ (210, whole 29) ∷ []);
  set_twist = λ a. None;
  set_loop = λ a. None;
}
