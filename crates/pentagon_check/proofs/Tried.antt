-- The pentagon, tried on values that were worked out by hand.
use Rattle.std.specs.Prelude.{◌≡◌, ◌+◌, ◌*◌, ◌^◌, true, ◌&&◌, ◌==◌, [], ◌∷◌, ℤ, pos, neg_ℤ, Some, None, if◌then◌else◌, refl}
use Rattle.ring_laws.specs.Whole.{whole_ring, whole_held}
use Rattle.fusion_rules.specs.Fusion.{Fusion, fuses, with_triple}
use Rattle.fusion_rules.proofs.Worked.{two_labels, fib}
use Rattle.symbol_table.specs.Symbols.{Symbols, symbols_of}
use Rattle.symbol_table.specs.declared.law.Law.TheVariants.{Pentagon}
use Rattle.symbol_table.specs.declared.law.Kind.TheVariants.{Fails, Overflow}
use Rattle.law_events.specs.Sides.{first_of, pentagon_left, pentagon_right}

-- all labels fuse, and each F is another number: 1abcdef in digits
abbrev numbered : Symbols ℤ
numbered = symbols_of whole_ring whole_held (record {
  version = 1;
  count = 9;
  fuse = λ a b c. true;
  set_f = λ a b c d e f. Some (pos (1000000 + 100000 * a + 10000 * b + 1000 * c + 100 * d + 10 * e + f));
  set_r = λ a b c. None;
  set_w = λ a b c. None;
  set_v = λ a b c. None;
  set_twist = λ a. None;
  set_loop = λ a. None;
})

-- F(4,2,3,6;5,7) F(0,1,7,6;4,8) = 1423657 · 1017648
pub left_by_hand : pentagon_left numbered 0 1 2 3 4 5 6 7 8 ≡ Some (pos 1448781698736)
left_by_hand = refl

-- the sum over e of F(0,1,2,5;4,e) F(0,e,3,6;5,8) F(1,2,3,8;e,7)
pub right_by_hand : pentagon_right numbered 0 1 2 3 4 5 6 7 8 ≡ Some (pos 10688631024386350896)
right_by_hand = refl

-- rules with one F given: that of four labels 1, at two labels each 0
abbrev with_one : Fusion → ℤ → Symbols ℤ
with_one rules value = symbols_of whole_ring whole_held (record {
  version = 1;
  count = rules.count;
  fuse = fuses rules;
  set_f = λ a b c d e f. if (a == 1 && (b == 1 && (c == 1 && d == 1))) && (e == 0 && f == 0) then Some value else None;
  set_r = λ a b c. None;
  set_w = λ a b c. None;
  set_v = λ a b c. None;
  set_twist = λ a. None;
  set_loop = λ a. None;
})

-- the group of order two
abbrev group : Fusion
group = with_triple two_labels 1 1 0

pub trivial_passes : first_of (with_one group (pos 1)) Pentagon ≡ None
trivial_passes = refl

pub semion_passes : first_of (with_one group (neg_ℤ (pos 1))) Pentagon ≡ None
semion_passes = refl

-- 1 on the left, 2 · 1 · 2 on the right
pub two_fails : first_of (with_one group (pos 2)) Pentagon ≡ Some (record { kind = Fails; law = Pentagon; index = 1 ∷ 1 ∷ 1 ∷ 1 ∷ 0 ∷ 1 ∷ 0 ∷ 0 ∷ 1 ∷ [] })
two_fails = refl

-- 1 on the left, and a product that doesn't fit on the right
pub too_large : first_of (with_one group (pos (2 ^ 64))) Pentagon ≡ Some (record { kind = Overflow; law = Pentagon; index = 1 ∷ 1 ∷ 1 ∷ 1 ∷ 0 ∷ 1 ∷ 0 ∷ 0 ∷ 1 ∷ [] })
too_large = refl

-- Fibonacci rules: 0 on the left, since f = t doesn't lead from x = 1 to z = 1; the terms on the right are 0 · 1 · 1 and 1 · 1 · 1
pub last_term_counts : first_of (with_one fib (pos 0)) Pentagon ≡ Some (record { kind = Fails; law = Pentagon; index = 1 ∷ 1 ∷ 1 ∷ 1 ∷ 0 ∷ 1 ∷ 0 ∷ 1 ∷ 1 ∷ [] })
last_term_counts = refl
