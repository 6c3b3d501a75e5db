-- Products, tried on values that were worked out by hand.
use Rattle.std.proofs.Common.{zero, suc, ◌<◌, arith}
use Rattle.std.specs.Prelude.{◌≡◌, ℕ, ◌+◌, ◌*◌, ◌==◌, true, false, ℤ, pos, negsuc, refl}
use Rattle.std.proofs.lemmas.Bool.Decides.{nat_tests}
use Rattle.ring_laws.specs.Whole.{whole_ring, whole_held}
use Rattle.ring_laws.specs.WholeLaws.{whole_laws, int_equal_is}
use Rattle.fusion_rules.specs.Fusion.{fuses}
use Rattle.fusion_rules.proofs.Worked.{one_label, one_label_passes}
use Rattle.symbol_table.specs.Index.{AreThreeLabels}
use Rattle.symbol_table.specs.Symbols.{Given, Symbols, symbols_of}
use Rattle.symbol_table.specs.Draft.{given}
use Rattle.symbol_table.specs.Laws.{IsLawful, laws_of}
use Rattle.symbol_table.specs.AllLabels.{IsProper}
use Rattle.symbol_table.specs.declared.law.Law.TheVariants.{Rigid, Twist, LoopSum, LoopF}
use Rattle.symbol_table.proofs.Fib.{Whole5, num, fib2, conjugate5}
use Rattle.symbol_table.proofs.MemberLemmas.{has_zero}
use Rattle.symbol_table.proofs.RuleLemmas.{always_commute}
use Rattle.symbol_table.proofs.Proper.{is_proper}
use Rattle.symbol_table.proofs.Equations.{has_equations, has_unit}
use Rattle.symbol_table.proofs.Weighted.{is_weighted}
use Rattle.symbol_table.proofs.Tested.{is_lawful_at, tried_laws}
use Rattle.symbol_table.proofs.Worked.{unit_draft, one_only}
use Rattle.image_laws.specs.Category.{AreOfCategory}
use Rattle.image_laws.specs.Products.{product_of}
use Rattle.image_laws.proofs.Factors.{IsFactor, is_factor}
use Rattle.image_laws.proofs.Products.{are_of_category}

-- No category: a number of its own at each index, its leading digits telling the symbol; one triple fuses.
abbrev six : ℕ → ℕ → ℕ → ℕ → ℕ → ℕ → ℕ → ℤ
six lead a b c d e f = pos (1000000 * lead + 100000 * a + 10000 * b + 1000 * c + 100 * d + 10 * e + f)

abbrev three : ℕ → ℕ → ℕ → ℕ → ℤ
three lead a b e = pos (1000 * lead + 100 * a + 10 * b + e)

abbrev numbered : (count lead triple : ℕ) → Symbols ℤ
numbered count lead triple = record {
  version = 2;
  ring = whole_ring;
  held = whole_held;
  count = count;
  fuse = λ a b e. 100 * a + 10 * b + e == triple;
  f = six (lead + 1);
  h = six (lead + 2);
  r = three (lead + 3);
  s = three (lead + 4);
  w = three (lead + 5);
  v = three (lead + 6);
  twist = λ a. pos (10 * (lead + 7) + a);
  loop_value = λ a. pos (10 * (lead + 8) + a);
}

-- two labels by three: the label 3 i + j is the pair (i, j)
abbrev pair : Symbols ℤ
pair = product_of (numbered 2 0 101) (numbered 3 10 210)

pub labels : pair.count ≡ 6
labels = refl

-- (1,2), (0,1) and (1,0) fuse, since 1, 0, 1 and 2, 1, 0 do
pub both_fuse : pair.fuse 5 1 3 ≡ true
both_fuse = refl

pub first_alone : pair.fuse 5 2 3 ≡ false
first_alone = refl

pub second_alone : pair.fuse 2 1 3 ≡ false
second_alone = refl

-- F(1,0,1,1;0,0) = 1101100 of the first, F(2,2,1,0;1,0) = 11221010 of the second
pub f_by_hand : pair.f 5 2 4 3 1 0 ≡ pos 12355454111000
f_by_hand = refl

pub h_by_hand : pair.h 5 2 4 3 1 0 ≡ pos 25677564111000
h_by_hand = refl

-- R(1,0,1) = 3101 of the first, R(2,2,1) = 13221 of the second
pub r_by_hand : pair.r 5 2 4 ≡ pos 40998321
r_by_hand = refl

pub s_by_hand : pair.s 5 2 4 ≡ pos 58320321
s_by_hand = refl

pub w_by_hand : pair.w 5 2 4 ≡ pos 77642321
w_by_hand = refl

pub v_by_hand : pair.v 5 2 4 ≡ pos 98964321
v_by_hand = refl

-- 71 · 171 and 81 · 181
pub twist_by_hand : pair.twist 4 ≡ pos 12141
twist_by_hand = refl

pub loop_by_hand : pair.loop_value 4 ≡ pos 14661
loop_by_hand = refl

-- The Fibonacci category and its reverse: 1 is the t of the second, 2 that of the first, and 3 is both.
abbrev reverse : Symbols Whole5
reverse = record fib2 { r = fib2.s; s = fib2.r; twist = λ a. conjugate5 (fib2.twist a) }

abbrev double : Symbols Whole5
double = product_of fib2 reverse

pub four_labels : double.count ≡ 4
four_labels = refl

pub both_t : double.fuse 3 3 3 ≡ true
both_t = refl

pub each_t : double.fuse 1 2 3 ≡ true
each_t = refl

pub no_other_t : double.fuse 1 1 2 ≡ false
no_other_t = refl

-- z^-3 = z^2 of the second, z^3 of the first, and both
pub r_of_second : double.r 1 1 0 ≡ num (pos 0) (pos 0) (pos 1) (pos 0)
r_of_second = refl

pub r_of_first : double.r 2 2 0 ≡ num (pos 0) (pos 0) (pos 0) (pos 1)
r_of_first = refl

pub r_of_both : double.r 3 3 0 ≡ num (pos 1) (pos 0) (pos 0) (pos 0)
r_of_both = refl

-- z^2 z^-2, and the golden ratio squared, which is one more
pub twist_of_both : double.twist 3 ≡ num (pos 1) (pos 0) (pos 0) (pos 0)
twist_of_both = refl

pub loop_of_both : double.loop_value 3 ≡ num (pos 1) (pos 0) (negsuc 0) (negsuc 0)
loop_of_both = refl

-- laws of the double, tried at every index
pub rigid_tried : is_lawful_at double Rigid ≡ true
rigid_tried = refl

pub twist_tried : is_lawful_at double Twist ≡ true
twist_tried = refl

pub loop_sum_tried : is_lawful_at double LoopSum ≡ true
loop_sum_tried = refl

pub loop_f_tried : is_lawful_at double LoopF ≡ true
loop_f_tried = refl

-- The unit alone, in version 2, meets all that is asked of a factor.
abbrev alone_given : Given ℤ
alone_given = record (given unit_draft) { version = 2 }

abbrev alone : Symbols ℤ
alone = symbols_of whole_ring whole_held alone_given

alone_lawful : IsLawful alone
alone_lawful = record {
  rules = one_label_passes;
  laws = tried_laws alone (λ x y. (int_equal_is x y).0) (λ x y. (int_equal_is x y).1) (laws_of 2) refl;
}

alone_labels : (a b e : ℕ) → fuses one_label a b e ≡ true → AreThreeLabels 1 a b e
alone_labels a b e h = let all = one_only a b e h in (omega (arith, all.0), omega (arith, all.1), omega (arith, all.2))

alone_left : (a b : ℕ) → a < 1 → fuses one_label 0 a b ≡ (a == b)
alone_left zero zero h = refl
alone_left zero (suc b) h = grind (arith, nat_tests)
alone_left (suc a) b h = absurd (omega arith)

alone_right : (a b : ℕ) → a < 1 → fuses one_label a 0 b ≡ (a == b)
alone_right zero zero h = refl
alone_right zero (suc b) h = grind (arith, nat_tests)
alone_right (suc a) b h = absurd (omega arith)

alone_proper : IsProper alone
alone_proper =
    is_proper whole_ring whole_held (has_zero whole_laws) alone_given
    (record { f = λ a b m d e f. tt; r = λ a b e. tt; w = λ a b e. tt; v = λ a b e. tt }) alone_labels
    (always_commute 1 (fuses one_label) one_label_passes alone_labels)

pub alone_factor : IsFactor alone
alone_factor =
    is_factor whole_ring whole_held alone_given refl alone_lawful alone_proper
    (has_unit alone (has_zero whole_laws) alone_proper alone_lawful (omega arith) alone_left alone_right)
    (is_weighted whole_ring whole_held whole_laws alone_given alone_proper alone_lawful)
    (has_equations alone (has_zero whole_laws) alone_proper alone_lawful)

pub alone_twice : AreOfCategory (product_of alone alone)
alone_twice = are_of_category alone alone whole_laws alone_factor alone_factor
