-- The hexagons, tried on values that were worked out by hand.
use Rattle.std.specs.Prelude.{◌≡◌, ◌+◌, ◌*◌, ◌^◌, true, ◌&&◌, ◌==◌, [], ◌∷◌, ℤ, pos, neg_ℤ, Some, None, if◌then◌else◌, refl}
use Rattle.ring_laws.specs.Whole.{whole_ring, whole_held}
use Rattle.fusion_rules.specs.Fusion.{Fusion, fuses, with_triple}
use Rattle.fusion_rules.proofs.Worked.{two_labels, fib}
use Rattle.symbol_table.specs.Symbols.{Symbols, symbols_of}
use Rattle.symbol_table.specs.declared.law.Law.TheVariants.{HexagonOne, HexagonTwo}
use Rattle.symbol_table.specs.declared.law.Kind.TheVariants.{Fails, Overflow}
use Rattle.law_events.specs.Sides.{first_in, first_of, hexagon_left, hexagon_right}
use Rattle.hexagon_check.specs.Exchange.{hexagon_laws}

-- all labels fuse, and each symbol is another number: F is 1abcdef in digits, R is 2abc, w is 3abc, v is 4abc
abbrev numbered : Symbols ℤ
numbered = symbols_of whole_ring whole_held (record {
  version = 1;
  count = 6;
  fuse = λ a b c. true;
  set_f = λ a b c d e f. Some (pos (1000000 + 100000 * a + 10000 * b + 1000 * c + 100 * d + 10 * e + f));
  set_r = λ a b c. Some (pos (2000 + 100 * a + 10 * b + c));
  set_w = λ a b c. Some (pos (3000 + 100 * a + 10 * b + c));
  set_v = λ a b c. Some (pos (4000 + 100 * a + 10 * b + c));
  set_twist = λ a. None;
  set_loop = λ a. None;
})

-- R(0,1,4) F(1,0,2,3;4,5) R(0,2,5) = 2014 · 1102345 · 2025
pub left_by_hand : hexagon_left numbered numbered.r 0 1 2 3 4 5 ≡ Some (pos 4495748730750)
left_by_hand = refl

-- the sum over g of F(0,1,2,3;4,g) R(0,g,3) F(1,2,0,3;g,5)
pub right_by_hand : hexagon_right numbered numbered.r 0 1 2 3 4 5 ≡ Some (pos 13800432533380225)
right_by_hand = refl

-- S(0,1,4) F(1,0,2,3;4,5) S(0,2,5), where S(0,1,4) = R(1,0,4) w(0,1,4) v(1,0,4) = 2104 · 3014 · 4104 and S(0,2,5) = 2205 · 3025 · 4205
pub left_of_s : hexagon_left numbered numbered.s 0 1 2 3 4 5 ≡ Some (pos 804662653523546605510800000)
left_of_s = refl

-- rules with R and the weight given at 1 1 0
abbrev with_two : Fusion → ℤ → ℤ → Symbols ℤ
with_two rules exchange weight = symbols_of whole_ring whole_held (record {
  version = 1;
  count = rules.count;
  fuse = fuses rules;
  set_f = λ a b c d e f. None;
  set_r = λ a b c. if a == 1 && (b == 1 && c == 0) then Some exchange else None;
  set_w = λ a b c. if a == 1 && (b == 1 && c == 0) then Some weight else None;
  set_v = λ a b c. None;
  set_twist = λ a. None;
  set_loop = λ a. None;
})

-- the group of order two
abbrev group : Fusion
group = with_triple two_labels 1 1 0

pub trivial_passes : first_in (with_two group (pos 1) (pos 1)) hexagon_laws ≡ None
trivial_passes = refl

pub fermion_passes : first_in (with_two group (neg_ℤ (pos 1)) (pos 1)) hexagon_laws ≡ None
fermion_passes = refl

-- 2 · 1 · 2 on the left, 1 on the right
pub two_fails : first_in (with_two group (pos 2) (pos 1)) hexagon_laws ≡ Some (record { kind = Fails; law = HexagonOne; index = 1 ∷ 1 ∷ 1 ∷ 1 ∷ 0 ∷ 0 ∷ [] })
two_fails = refl

-- R passes; S(1,1,0) = 1 · 2 · 1
pub second_fails : first_in (with_two group (pos 1) (pos 2)) hexagon_laws ≡ Some (record { kind = Fails; law = HexagonTwo; index = 1 ∷ 1 ∷ 1 ∷ 1 ∷ 0 ∷ 0 ∷ [] })
second_fails = refl

pub second_too_large : first_of (with_two group (neg_ℤ (pos 1)) (pos (2 ^ 64))) HexagonTwo ≡ Some (record { kind = Overflow; law = HexagonTwo; index = 1 ∷ 1 ∷ 1 ∷ 1 ∷ 0 ∷ 0 ∷ [] })
second_too_large = refl

-- Fibonacci rules, all symbols 1: one term on the right for each label
pub two_terms : first_of (with_two fib (pos 1) (pos 1)) HexagonOne ≡ Some (record { kind = Fails; law = HexagonOne; index = 1 ∷ 1 ∷ 1 ∷ 1 ∷ 0 ∷ 0 ∷ [] })
two_terms = refl
