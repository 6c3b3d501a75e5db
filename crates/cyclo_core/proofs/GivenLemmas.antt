-- The cases of a number that is given.
use Rattle.std.proofs.Common.{◌≡◌, ℕ, zero, suc, ◌-◌, ◌^◌, ◌<◌, ◌≤◌, Bool, true, false, eqb, ◌&&◌, List, length, refl, sym, ap, subst, arith, inl, inr, lit≤}
use Rattle.std.specs.Prelude.{ℤ, pos, negsuc, neg_ℤ, ◌<ℤ◌, unsigned_abs, IsTrue, ◌↔◌, nat_le, Ok, Err}
use Rattle.std.proofs.lemmas.Int.{ints, to_z-of_z}
use mir.Val.{SFits, to_z, of_z}
use mir.Syntax.{w128}
use Rattle.std.proofs.lemmas.Bool.{cases_lt}
use Rattle.std.proofs.lemmas.Bool.Decides.{nat_tests}
use Rattle.poly_core.specs.Companion.{IsBelow}
use Rattle.poly_core.specs.Table.{at, past_end}
use Rattle.cyclo_core.specs.CycloLaws.{le_of, test_of}
use Rattle.cyclo_core.specs.Given.{are_small, number_of}
use Rattle.cyclo_core.specs.Ratio.{most, reduced}
use Rattle.cyclo_core.specs.declared.fault.NumberFault.TheVariants.{TooBig, ZeroDenominator}
use Rattle.cyclo_core.proofs.NumberLemmas.{all_of, both_fit, BothFit}

false_of : (b : Bool) → (IsTrue b → ⊥) → b ≡ false
false_of true h = absurd (h refl)
false_of false h = refl

pub large_at : (nums : List ℤ) (den : ℤ) (j : ℕ) → j < 16 → (unsigned_abs (at nums j) ≤ 2 ^ 127 - 1 → ⊥) → are_small nums den ≡ false
unfolding are_small
large_at nums den j lt large =
    false_of _ (λ h. let fit = (both_fit 16 (λ i. unsigned_abs (at nums i)) (unsigned_abs den)).0 h in let over = fit.over in large (over j lt))

pub small_under : (nums : List ℤ) (den : ℤ) → ((j : ℕ) → j < 16 → unsigned_abs (at nums j) ≤ 2 ^ 127 - 1) → are_small nums den ≡ nat_le (unsigned_abs den) most
unfolding are_small
small_under nums den h = ap (λ b. b && nat_le (unsigned_abs den) most) (all_of 16 (λ i. nat_le (unsigned_abs (at nums i)) most) (λ j lt. test_of _ most (h j lt)))

pub all_small : (nums : List ℤ) (den : ℤ) → are_small nums den ≡ true → BothFit 16 (λ j. unsigned_abs (at nums j)) (unsigned_abs den)
unfolding are_small
all_small nums den h = (both_fit 16 (λ i. unsigned_abs (at nums i)) (unsigned_abs den)).0 h

pub number_of-big : (nums : List ℤ) (den : ℤ) → are_small nums den ≡ false → number_of nums den ≡ Err TooBig
unfolding number_of
number_of-big nums den e = rw e refl

pub number_of-zero : (nums : List ℤ) (den : ℤ) → are_small nums den ≡ true → den ≡ pos 0 → number_of nums den ≡ Err ZeroDenominator
unfolding number_of
number_of-zero nums den e z = rw (e, z) refl

pub number_of-minus : (nums : List ℤ) (den : ℤ) → are_small nums den ≡ true → den <ℤ pos 0 → number_of nums den ≡ Ok (reduced (λ j. neg_ℤ (at nums j)) (unsigned_abs den))
unfolding number_of
number_of-minus nums (pos d) e lt = absurd (omega (arith, ints))
number_of-minus nums (negsuc d) e lt = rw e refl

pub number_of-plus : (nums : List ℤ) (den : ℤ) → are_small nums den ≡ true → pos 0 <ℤ den → number_of nums den ≡ Ok (reduced (at nums) (unsigned_abs den))
unfolding number_of
number_of-plus nums (pos zero) e lt = absurd (omega (arith, ints))
number_of-plus nums (pos (suc d)) e lt =
    let some : eqb (suc d) 0 ≡ false = grind (arith, nat_tests) in
    rw (e, some) refl
number_of-plus nums (negsuc d) e lt = absurd (omega (arith, ints))

pub same_test : (b : Bool) (m : ℕ) → IsTrue b ↔ (m ≤ 2 ^ 127 - 1) → b ≡ nat_le m most
same_test true m h = sym (test_of m most (h.0 refl))
same_test false m h = sym (false_of (nat_le m most) (λ t. let yes = h.1 (le_of m most t) in cc))

-- sixteen numbers are small at every place
pub small_everywhere : (nums : List ℤ) (den : ℤ) → length nums ≡ 16 → are_small nums den ≡ true → (j : ℕ) → unsigned_abs (at nums j) ≤ 2 ^ 127 - 1
small_everywhere nums den full h j =
    elim (cases_lt j 16) [
      | inl lt ↦ let small = all_small nums den h in small.over j lt
      | inr le ↦ subst (λ z. unsigned_abs z ≤ 2 ^ 127 - 1) (sym (past_end nums j (omega (arith, full)))) (lit≤ tt)
    ]

pub zero_past : (nums : List ℤ) (t d : ℕ) → length nums ≡ 16 → t ≡ d → ((j : ℕ) → t ≤ j → j < 16 → at nums j ≡ pos 0) → IsBelow d (at nums)
zero_past nums t d full e h = record {
  past = λ j le. elim (cases_lt j 16) [
    | inl lt ↦ h j (omega arith) lt
    | inr more ↦ past_end nums j (omega (arith, full))
  ];
}

pub negative_past : (nums : List ℤ) (t d : ℕ) → length nums ≡ 16 → t ≡ d → ((j : ℕ) → t ≤ j → j < 16 → at nums j ≡ pos 0) → IsBelow d (λ j. neg_ℤ (at nums j))
negative_past nums t d full e h = let below = zero_past nums t d full e h in record { past = λ j le. ap neg_ℤ (below.past j le) }

-- a number of 128 bits, from its bits and back
pub bits_back : (den : ℤ) → SFits w128 den → to_z w128 (of_z w128 den) ≡ den
bits_back den fits = simp to_z-of_z
