-- The unit alone and the Fibonacci category meet all that is said of a category at all labels, together.
use Rattle.std.proofs.Common.{◌≡◌, ℕ, zero, suc, ◌<◌, true, ◌==◌, [], ◌∷◌, Option, Some, None, refl, arith}
use Rattle.std.specs.Prelude.{ℤ, pos, ◌+ℤ◌, ◌*ℤ◌, ◌&&◌, IsTrue, IfSome}
use Rattle.std.proofs.lemmas.Int.{ints}
use Rattle.std.proofs.lemmas.Bool.Decides.{nat_tests}
use Rattle.std.proofs.lemmas.List.Elements.{All-from_recursion}
use Rattle.ring_laws.specs.Whole.{whole_ring, whole_held}
use Rattle.ring_laws.specs.WholeLaws.{whole_laws}
use Rattle.fusion_rules.specs.Fusion.{fuses}
use Rattle.fusion_rules.proofs.Worked.{one_label}
use Rattle.symbol_table.specs.Index.{AreThreeLabels}
use Rattle.symbol_table.specs.Symbols.{Symbols}
use Rattle.symbol_table.specs.Draft.{given}
use Rattle.symbol_table.specs.Laws.{at3, at6}
use Rattle.symbol_table.specs.AllLabels.{IsProper, HasUnit, IsWeighted, HasEquations}
use Rattle.symbol_table.proofs.Fib.{Whole5, reduced, ring5, held5, fuse5, fib, fib_given}
use Rattle.symbol_table.proofs.Lawful.{equal_sound, fib_lawful, unit_alone, unit_category}
use Rattle.symbol_table.proofs.MemberLemmas.{HasZero, has_zero}
use Rattle.symbol_table.proofs.RuleLemmas.{always_commute, both}
use Rattle.symbol_table.proofs.Proper.{GivesMembers, is_proper}
use Rattle.symbol_table.proofs.Equations.{has_equations, has_unit}
use Rattle.symbol_table.proofs.Weighted.{is_weighted, weighted_by}
use Rattle.symbol_table.proofs.Tested.{all_over, over_at}
use Rattle.symbol_table.proofs.Worked.{unit_draft, one_only}

-- all of it
pub record Witnesses {E : Type 0} (c : Symbols E) : Type 0 where
  pub proper : IsProper c
  pub unit : HasUnit c
  pub weighted : IsWeighted c
  pub equations : HasEquations c

unit_labels : (a b e : ℕ) → fuses one_label a b e ≡ true → AreThreeLabels 1 a b e
unit_labels a b e h = let all = one_only a b e h in (omega (arith, all.0), omega (arith, all.1), omega (arith, all.2))

unit_first : (a b : ℕ) → a < 1 → fuses one_label 0 a b ≡ (a == b)
unit_first zero zero h = refl
unit_first zero (suc b) h = grind (arith, nat_tests)
unit_first (suc a) b h = absurd (omega arith)

unit_second : (a b : ℕ) → a < 1 → fuses one_label a 0 b ≡ (a == b)
unit_second zero zero h = refl
unit_second zero (suc b) h = grind (arith, nat_tests)
unit_second (suc a) b h = absurd (omega arith)

unit_members : GivesMembers whole_ring (given unit_draft)
unit_members = record { f = λ a b m d e f. tt; r = λ a b e. tt; w = λ a b e. tt; v = λ a b e. tt }

unit_proper : IsProper unit_alone
unit_proper = is_proper whole_ring whole_held (has_zero whole_laws) (given unit_draft) unit_members unit_labels (always_commute 1 (fuses one_label) unit_category.lawful.rules unit_labels)

pub unit_witness : Witnesses unit_alone
unit_witness = record {
  proper = unit_proper;
  unit = has_unit unit_alone (has_zero whole_laws) unit_proper unit_category.lawful (omega arith) unit_first unit_second;
  weighted = is_weighted whole_ring whole_held whole_laws (given unit_draft) unit_proper unit_category.lawful;
  equations = has_equations unit_alone (has_zero whole_laws) unit_proper unit_category.lawful;
}

none_left : (a : ℤ) → pos 0 *ℤ a ≡ pos 0
none_left a = omega (arith, ints)

none_right : (a : ℤ) → a *ℤ pos 0 ≡ pos 0
none_right a = omega (arith, ints)

zero5 : HasZero ring5
zero5 = record {
  zero_is = refl;
  one_is = refl;
  product_is = λ x y. refl;
  sum = refl;
  left = λ x t.
      let n : (a : ℤ) → ℤ = λ a. none_left a t in
      reduced (n x.c0) (n x.c1 +ℤ n x.c0) ((n x.c2 +ℤ n x.c1) +ℤ n x.c0) (((n x.c3 +ℤ n x.c2) +ℤ n x.c1) +ℤ n x.c0) ((n x.c3 +ℤ n x.c2) +ℤ n x.c1) (n x.c3 +ℤ n x.c2) (n x.c3);
  right = λ x t.
      let n : (a : ℤ) → ℤ = λ a. none_right a t in
      reduced (n x.c0) (n x.c0 +ℤ n x.c1) ((n x.c0 +ℤ n x.c1) +ℤ n x.c2) (((n x.c0 +ℤ n x.c1) +ℤ n x.c2) +ℤ n x.c3) ((n x.c1 +ℤ n x.c2) +ℤ n x.c3) (n x.c2 +ℤ n x.c3) (n x.c3);
  conjugate = refl;
}

fib_labels : (a b e : ℕ) → fuse5 a b e ≡ true → AreThreeLabels 2 a b e
fib_labels zero b e h = (omega arith, grind (arith, nat_tests), grind (arith, nat_tests))
fib_labels (suc a) zero e h = (grind (arith, nat_tests), omega arith, grind (arith, nat_tests))
fib_labels (suc a) (suc b) e h = (grind (arith, nat_tests), grind (arith, nat_tests), grind (arith, nat_tests))

fib_first : (a b : ℕ) → a < 2 → fuse5 0 a b ≡ (a == b)
fib_first a b h = grind (arith, nat_tests)

fib_second : (a b : ℕ) → a < 2 → fuse5 a 0 b ≡ (a == b)
fib_second zero b h = grind (arith, nat_tests)
fib_second (suc a) b h = grind (arith, nat_tests)

is_of : (o : Option Whole5) → IfSome o (λ x. IsTrue true)
is_of None = tt
is_of (Some x) = refl

fib_members : GivesMembers ring5 fib_given
fib_members = record {
  f = λ a b m d e f. is_of (fib_given.set_f a b m d e f);
  r = λ a b e. is_of (fib_given.set_r a b e);
  w = λ a b e. is_of (fib_given.set_w a b e);
  v = λ a b e. is_of (fib_given.set_v a b e);
}

fib_proper : IsProper fib
fib_proper = is_proper ring5 held5 zero5 fib_given fib_members fib_labels (always_commute 2 fuse5 fib_lawful.rules fib_labels)

-- H and S are adjoint at every index: tried
abbrev before_f : ℕ → ℕ → ℕ → ℕ → ℕ → ℕ → Whole5
before_f a b m d e f = ring5.product (ring5.product (fib.w a b e) (fib.w e m d)) (fib.h a b m d f e)

abbrev after_f : ℕ → ℕ → ℕ → ℕ → ℕ → ℕ → Whole5
after_f a b m d e f = ring5.product (ring5.product (fib.w b m f) (fib.w a f d)) (ring5.conjugate (fib.f a b m d e f))

abbrev before_r : ℕ → ℕ → ℕ → Whole5
before_r a b e = ring5.product (fib.w b a e) (fib.s a b e)

abbrev after_r : ℕ → ℕ → ℕ → Whole5
after_r a b e = ring5.product (fib.w a b e) (ring5.conjugate (fib.r b a e))

f_tried : all_over 2 6 (at6 (λ a b m d e f. held5.equal (before_f a b m d e f) (after_f a b m d e f))) [] ≡ true
f_tried = refl

r_tried : all_over 2 3 (at3 (λ a b e. held5.equal (before_r a b e) (after_r a b e))) [] ≡ true
r_tried = refl

fib_weighted : IsWeighted fib
fib_weighted =
    weighted_by ring5 held5 zero5 fib_given fib_proper fib_lawful
    (λ a b m d e f on.
    let one = both (fuse5 a b e) (fuse5 e m d && (fuse5 b m f && fuse5 a f d)) on in
    let two = both (fuse5 e m d) (fuse5 b m f && fuse5 a f d) one.1 in
    let left = fib_labels a b e one.0 in
    let right = fib_labels e m d two.0 in
    let last = fib_labels b m f (both (fuse5 b m f) (fuse5 a f d) two.1).0 in
    equal_sound (before_f a b m d e f) (after_f a b m d e f)
    (over_at 2 (at6 (λ a b m d e f. held5.equal (before_f a b m d e f) (after_f a b m d e f))) [] (a ∷ b ∷ m ∷ d ∷ e ∷ f ∷ []) f_tried
    (All-from_recursion (λ t. t < 2) (a ∷ b ∷ m ∷ d ∷ e ∷ f ∷ []) (left.0, (left.1, (right.1, (right.2, (left.2, (last.2, tt)))))))))
    (λ a b e on.
    let low = fib_labels a b e on in
    equal_sound (before_r a b e) (after_r a b e)
    (over_at 2 (at3 (λ a b e. held5.equal (before_r a b e) (after_r a b e))) [] (a ∷ b ∷ e ∷ []) r_tried
    (All-from_recursion (λ t. t < 2) (a ∷ b ∷ e ∷ []) (low.0, (low.1, (low.2, tt))))))

pub fib_witness : Witnesses fib
fib_witness = record {
  proper = fib_proper;
  unit = has_unit fib zero5 fib_proper fib_lawful (omega arith) fib_first fib_second;
  weighted = fib_weighted;
  equations = has_equations fib zero5 fib_proper fib_lawful;
}
