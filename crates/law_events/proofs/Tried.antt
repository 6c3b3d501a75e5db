-- The stated evaluations of single symbols and weights, tried on values that were worked out by hand, over whole numbers
-- whose conjugate is the negative, so that a conjugate shows.
use Rattle.std.specs.Prelude.{◌≡◌, ◌+◌, ◌*◌, ◌^◌, ◌==◌, true, ℤ, pos, neg_ℤ, Some, None, if◌then◌else◌, refl}
use Rattle.ring_laws.specs.Ring.{Ring}
use Rattle.ring_laws.specs.Whole.{whole_ring, whole_held}
use Rattle.symbol_table.specs.Symbols.{Given, Symbols, symbols_of}
use Rattle.symbol_table.specs.declared.law.Kind.TheVariants.{Fails, Overflow}
use Rattle.law_events.specs.Sides.{inverse_f_left, inverse_h_left, inverse_w, loop_f, loop_f_left, loop_sum, loop_sum_right, norm_r, norm_r_left, real_w, twist, twist_left, unit_f, unit_mark, unit_vertex}

abbrev turned_ring : Ring ℤ
turned_ring = record whole_ring { conjugate = neg_ℤ }

-- all labels fuse, and each symbol is another number: 1abcdef, 2abc, 3abc, 4abc in digits, 5a for a twist and 6a for a
-- loop value
abbrev numbers : Given ℤ
numbers = record {
  version = 1;
  count = 3;
  fuse = λ a b c. true;
  set_f = λ a b c d e f. Some (pos (1000000 + 100000 * a + 10000 * b + 1000 * c + 100 * d + 10 * e + f));
  set_r = λ a b c. Some (pos (2000 + 100 * a + 10 * b + c));
  set_w = λ a b c. Some (pos (3000 + 100 * a + 10 * b + c));
  set_v = λ a b c. Some (pos (4000 + 100 * a + 10 * b + c));
  set_twist = λ a. Some (pos (50 + a));
  set_loop = λ a. Some (pos (60 + a));
}

abbrev numbered : Symbols ℤ
numbered = symbols_of turned_ring whole_held numbers

-- F is compared with 1 where one of its first three labels is the unit
pub unit_f_first : unit_f numbered 0 1 2 1 1 1 ≡ Some Fails
unit_f_first = refl

pub unit_f_second : unit_f numbered 1 0 2 1 1 1 ≡ Some Fails
unit_f_second = refl

pub unit_f_third : unit_f numbered 1 2 0 1 1 1 ≡ Some Fails
unit_f_third = refl

pub no_unit_f : unit_f numbered 1 2 1 0 0 0 ≡ None
no_unit_f = refl

pub unit_r_first : unit_vertex numbered numbered.r 0 1 2 ≡ Some Fails
unit_r_first = refl

pub unit_r_second : unit_vertex numbered numbered.r 1 0 2 ≡ Some Fails
unit_r_second = refl

pub no_unit_r : unit_vertex numbered numbered.r 1 2 0 ≡ None
no_unit_r = refl

pub not_real : real_w numbered 1 2 0 ≡ Some Fails
not_real = refl

-- R(1,2,0) conj(R(1,2,0)) w(2,1,0) = -2120 · 2120 · 3210
pub norm_by_hand : norm_r_left numbered 1 2 0 ≡ Some (neg_ℤ (pos 14427024000))
norm_by_hand = refl

-- R is 2, w(2,1,0) is 3 and w(1,2,0) is -12
abbrev weighted : Symbols ℤ
weighted = symbols_of turned_ring whole_held (record numbers { set_r = λ a b c. Some (pos 2); set_w = λ a b c. if a == 1 then Some (neg_ℤ (pos 12)) else Some (pos 3) })

pub norm_holds : norm_r weighted 1 2 0 ≡ None
norm_holds = refl

pub norm_the_other_way : norm_r weighted 2 1 0 ≡ Some Fails
norm_the_other_way = refl

-- w(1,2,0) and v(1,2,0) are -1
pub inverse_holds : inverse_w (symbols_of turned_ring whole_held (record numbers { set_w = λ a b c. if a == 1 then Some (neg_ℤ (pos 1)) else Some (pos 3); set_v = λ a b c. if a == 1 then Some (neg_ℤ (pos 1)) else Some (pos 3) })) 1 2 0 ≡ None
inverse_holds = refl

-- the sum over f of F(1,2,0,1;2,f) H(1,2,0,1;f,0)
pub inverse_f_by_hand : inverse_f_left numbered 1 2 0 1 2 0 ≡ Some (neg_ℤ (pos 617867176414466617375153480))
inverse_f_by_hand = refl

-- the sum over e of H(1,2,0,1;2,e) F(1,2,0,1;e,0)
pub inverse_h_by_hand : inverse_h_left numbered 1 2 0 1 2 0 ≡ Some (neg_ℤ (pos 635700714748173147895369600))
inverse_h_by_hand = refl

pub unit_twist_fails : unit_mark numbered numbered.twist 0 ≡ Some Fails
unit_twist_fails = refl

pub no_unit_twist : unit_mark numbered numbered.twist 1 ≡ None
no_unit_twist = refl

-- R(1,2,0) R(2,1,0) theta_1 theta_2 = 2120 · 2210 · 51 · 52
pub twist_left_by_hand : twist_left numbered 1 2 0 ≡ Some (pos 12425150400)
twist_left_by_hand = refl

-- d_0 + d_1 + d_2, and d_2 alone where 1 and 2 make it alone
pub loop_sum_by_hand : loop_sum_right numbered 1 2 ≡ Some (pos 183)
loop_sum_by_hand = refl

pub loop_sum_where_fused : loop_sum_right (record numbered { fuse = λ a b c. c == 2 }) 1 2 ≡ Some (pos 62)
loop_sum_where_fused = refl

-- 62 · 62 · F(2,0,2,2;0,0) H(2,0,2,2;0,0), where all labels fuse and 0 is the first dual of 2
pub loop_f_by_hand : loop_f_left numbered 2 ≡ Some (neg_ℤ (pos 907520519547477015452160000000))
loop_f_by_hand = refl

-- where R is -1, theta_1 is 2 and theta_2 is 3, theta_0 is to be 6
abbrev twisted : ℤ → Symbols ℤ
twisted x = symbols_of turned_ring whole_held (record numbers { set_r = λ a b c. Some (neg_ℤ (pos 1)); set_twist = λ a. if a == 1 then Some (pos 2) else (if a == 2 then Some (pos 3) else Some x) })

pub twist_holds : twist (twisted (pos 6)) 1 2 0 ≡ None
twist_holds = refl

pub twist_fails : twist (twisted (neg_ℤ (pos 6))) 1 2 0 ≡ Some Fails
twist_fails = refl

-- a product that doesn't fit comes before a sum that differs
pub loops_too_large : loop_sum (symbols_of turned_ring whole_held (record numbers { set_loop = λ a. Some (pos (2 ^ 64)) })) 1 2 ≡ Some Overflow
loops_too_large = refl

pub loops_differ : loop_sum numbered 1 2 ≡ Some Fails
loops_differ = refl

-- F, w and v are 1 and d_1 is -1: H is 1, or -1 where a conjugate is the negative
abbrev plain : Given ℤ
plain = record numbers { set_f = λ a b c d e f. Some (pos 1); set_w = λ a b c. Some (pos 1); set_v = λ a b c. Some (pos 1); set_loop = λ a. Some (neg_ℤ (pos 1)) }

pub loop_f_holds : loop_f (symbols_of whole_ring whole_held plain) 1 ≡ None
loop_f_holds = refl

pub loop_f_fails : loop_f (symbols_of turned_ring whole_held plain) 1 ≡ Some Fails
loop_f_fails = refl
