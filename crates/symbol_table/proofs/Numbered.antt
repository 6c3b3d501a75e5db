-- The equations of the laws, at numbers that were worked out by hand.
use Rattle.std.specs.Prelude.{◌≡◌, ◌==◌, ℤ, pos, neg_ℤ, refl}
use Rattle.ring_laws.specs.Whole.{whole_held}
use Rattle.symbol_table.specs.Symbols.{Symbols, symbols_of}
use Rattle.symbol_table.specs.Laws.{Same, NotZero, Free, norm_r_says, unit_f_says, unit_says, real_w_says, inverse_w_says, inverse_f_says, inverse_h_says, rigid_says, pentagon_says, hexagon_says, unit_mark_says, twist_says, loop_sum_says, loop_f_says}
use Rattle.symbol_table.proofs.Worked.{numbered, turned_ring}

-- seven labels that all fuse, each symbol another number, and a conjugate that is the negative
abbrev labelled : Symbols ℤ
labelled = symbols_of turned_ring whole_held numbered

-- R(1,2,0) conj(R(1,2,0)) w(2,1,0) = w(1,2,0), with a conjugate that is the negative: 2120 · -2120 · 3210 = 3120
pub norm_says : norm_r_says labelled 1 2 0 ≡ Same (neg_ℤ (pos 14427024000)) (pos 3120)
norm_says = refl

-- F is 1 where the first, the second or the third label is the unit
pub unit_first : unit_f_says labelled 0 1 2 3 4 5 ≡ Same (pos 1012345) (pos 1)
unit_first = refl

pub unit_second : unit_f_says labelled 1 0 2 3 4 5 ≡ Same (pos 1102345) (pos 1)
unit_second = refl

pub unit_third : unit_f_says labelled 1 2 0 3 4 5 ≡ Same (pos 1120345) (pos 1)
unit_third = refl

pub unit_elsewhere : unit_f_says labelled 1 2 3 0 0 0 ≡ Free
unit_elsewhere = refl

pub unit_vertex_first : unit_says labelled labelled.r 0 1 2 ≡ Same (pos 2012) (pos 1)
unit_vertex_first = refl

pub unit_vertex_second : unit_says labelled labelled.r 1 0 2 ≡ Same (pos 2102) (pos 1)
unit_vertex_second = refl

pub unit_vertex_third : unit_says labelled labelled.r 1 2 0 ≡ Free
unit_vertex_third = refl

pub real_says : real_w_says labelled 1 2 0 ≡ Same (neg_ℤ (pos 3120)) (pos 3120)
real_says = refl

pub inverse_w_says_so : inverse_w_says labelled 1 2 0 ≡ Same (pos 12854400) (pos 1)
inverse_w_says_so = refl

-- the sum over f of F(1,2,3,4;5,f) H(1,2,3,4;f,6)
pub inverse_f_by_hand : inverse_f_says labelled 1 2 3 4 5 6 ≡ Same (neg_ℤ (pos 1711604412653575456063443816)) (pos 0)
inverse_f_by_hand = refl

-- the sum over e of H(1,2,3,4;5,e) F(1,2,3,4;e,6)
pub inverse_h_by_hand : inverse_h_says labelled 1 2 3 4 5 6 ≡ Same (neg_ℤ (pos 1610805059582686612879508400)) (pos 0)
inverse_h_by_hand = refl

-- all labels fuse, so 0 is the first dual of 3: F(3,0,3,3;0,0)
pub rigid_by_hand : rigid_says labelled 3 ≡ NotZero (pos 1303300)
rigid_by_hand = refl

-- F(4,2,3,6;5,7) F(0,1,7,6;4,8), and the sum over e of F(0,1,2,5;4,e) F(0,e,3,6;5,8) F(1,2,3,8;e,7)
pub pentagon_by_hand : pentagon_says labelled 0 1 2 3 4 5 6 7 8 ≡ Same (pos 1448781698736) (pos 8233640072653788786)
pentagon_by_hand = refl

-- X(1,2,5) F(2,1,3,4;5,6) X(1,3,6), and the sum over g of F(1,2,3,4;5,g) X(1,g,4) F(2,3,1,4;g,6), with X for R and for S
pub hexagon_one_by_hand : hexagon_says labelled labelled.r 1 2 3 4 5 6 ≡ Same (pos 5507876784000) (pos 20666135969640504)
hexagon_one_by_hand = refl

pub hexagon_two_by_hand : hexagon_says labelled labelled.s 1 2 3 4 5 6 ≡ Same (pos 1109791539598209511680000000) (neg_ℤ (pos 304446862490540851365984))
hexagon_two_by_hand = refl

-- the twist and the loop value of the unit, and of no other label
pub unit_twist_by_hand : unit_mark_says labelled labelled.twist 0 ≡ Same (pos 50) (pos 1)
unit_twist_by_hand = refl

pub unit_loop_by_hand : unit_mark_says labelled labelled.loop_value 0 ≡ Same (pos 60) (pos 1)
unit_loop_by_hand = refl

pub no_unit_mark : unit_mark_says labelled labelled.twist 1 ≡ Free
no_unit_mark = refl

-- R(1,2,0) R(2,1,0) theta_1 theta_2 = theta_0: 2120 · 2210 · 51 · 52 = 50
pub twist_by_hand : twist_says labelled 1 2 0 ≡ Same (pos 12425150400) (pos 50)
twist_by_hand = refl

-- 61 · 62, and the sum of all seven loop values
pub loop_sum_by_hand : loop_sum_says labelled 1 2 ≡ Same (pos 3782) (pos 441)
loop_sum_by_hand = refl

-- where two labels make 3 alone, the sum is 63
pub loop_sum_where_fused : loop_sum_says (record labelled { fuse = λ a b c. c == 3 }) 1 2 ≡ Same (pos 3782) (pos 63)
loop_sum_where_fused = refl

-- 63 · 63 · F(3,0,3,3;0,0) H(3,0,3,3;0,0), where H = conj(F) w(0,3,0) w(3,0,3) v(3,0,0) v(0,3,3)
pub loop_f_by_hand : loop_f_says labelled 3 ≡ Same (neg_ℤ (pos 1170085962635271433330110000000)) (pos 1)
loop_f_by_hand = refl
