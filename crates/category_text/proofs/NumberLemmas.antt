-- A number of a root's ring that the type of numbers can hold is read again, its spelling is a word, and what is read
-- is such a number.
use Rattle.std.proofs.Common.{◌≡◌, ℕ, zero, suc, ◌/◌, ◌<◌, ◌≤◌, List, [], ◌∷◌, Bool, true, false, ◌&&◌, length, map, refl, sym, ap, subst, arith, inl, inr, if◌then◌else◌, Option, Some, None, Ok, Err}
use Rattle.std.specs.Prelude.{ℤ, pos, negsuc, neg_ℤ, unsigned_abs, nat_eq, nat_le, IsTrue}
use Rattle.std.specs.List.{list_all}
use Rattle.std.specs.Str.Parse.{digits_value}
use Rattle.std.proofs.Math.Nat.{div-le_self}
use Rattle.std.proofs.lemmas.Bool.{cases_lt}
use Rattle.std.proofs.lemmas.Bool.Decides.{nat_tests}
use native.Mathlib.Nat.{mul-div_cancel'}
use Rattle.ring_laws.specs.Whole.{int_equal}
use Rattle.poly_core.specs.Gcd.{totient}
use Rattle.poly_core.specs.Rho.{is_accepted, degree}
use Rattle.poly_core.specs.Table.{at, past_end}
use Rattle.poly_core.proofs.RhoLemmas.{degree_positive, degree_small, totient_is}
use Rattle.cyclo_core.specs.Content.{content, content-divides-first, quotient}
use Rattle.cyclo_core.specs.CycloLaws.{same_ratio_is, at-tabulate}
use Rattle.cyclo_core.specs.Fraction.{positive_of}
use Rattle.cyclo_core.specs.Ratio.{Ratio, most, reduced, is_held, magnitude, coefficient, under, ring_at}
use Rattle.cyclo_core.specs.RingAt.{member_of_reduced}
use Rattle.cyclo_core.proofs.NumberLemmas.{past_members, both_fit}
use Rattle.cyclo_text.specs.NumberWords.{comma, slash, pieces, part_value, part_fits, is_part, is_natural, value_of, number_over, number_by, halves_of, number_of, trimmed, spelled_number}
use Rattle.cyclo_text.specs.declared.fault.NumberWord.TheVariants.{Spelling, TooManyParts, TooBig, ZeroDenominator}
use Rattle.cyclo_text.proofs.ReadBack.{number_back}
use Rattle.cyclo_text.proofs.TrimLemmas.{at-trimmed, length-trimmed}
use Rattle.category_text.specs.Again.{IsNumberOf}
use Rattle.line_text.proofs.PlainWordLemmas.{IsWord}
use Rattle.category_text.proofs.SpellLemmas.{IsSpellable, number_word}

-- what is its own reduced form has sixteen numerators and a denominator that isn't 0
member_full : (root : ℕ) (x : Ratio) → IsTrue ((ring_at root).member x) → length x.numerators ≡ 16
unfolding reduced
member_full root x member =
    let is : x ≡ reduced (coefficient root x) (under x) = (same_ratio_is x _).0 member in
    ap (λ (v : Ratio). length v.numerators) is

member_positive : (root : ℕ) (x : Ratio) → IsTrue ((ring_at root).member x) → 0 < x.denominator
unfolding reduced
member_positive root x member =
    let is : x ≡ reduced (coefficient root x) (under x) = (same_ratio_is x _).0 member in
    let d : ℕ = under x in
    let g : ℕ = content d 16 (coefficient root x) in
    let some : 0 < d = omega arith in
    let left : 0 < d / g = (positive_of g (d / g) d some (mul-div_cancel' _ (content-divides-first d 16 (coefficient root x)))).1 in
    subst (λ m. 0 < m) (sym (ap (λ (v : Ratio). v.denominator) is)) left

trimmed_some : (xs : List ℤ) → 0 < length xs → 0 < length (trimmed xs)
unfolding trimmed
trimmed_some [] some = absurd (omega arith)
trimmed_some (x ∷ xs) some = by_test (list_all (λ z. int_equal z (pos 0)) xs)
  where
    by_test : (b : Bool) → 0 < length (if b then x ∷ [] else x ∷ trimmed xs)
    by_test true = omega arith
    by_test false = omega arith

module _ (root : ℕ) (x : Ratio) (is : IsNumberOf root x) where
  pub number_again : is_accepted root ≡ true → number_of root (spelled_number x) ≡ Ok x
  number_again accepted = number_back root x accepted is.0 is.1 (member_positive root x is.0) (member_full root x is.0)

  spellable : IsSpellable x
  unfolding is_held
  spellable =
      let fit = (both_fit 16 (magnitude x) x.denominator).0 is.1 in
      let over = fit.over in
      let bounded = fit.under in
      let past = past_members root x is.0 in
      let full = member_full root x is.0 in
      let most_parts = length-trimmed x.numerators (degree root) (degree_positive root) past in
      record {
        some = trimmed_some x.numerators (omega (arith, full));
        few = omega (arith, most_parts, degree_small root);
        small = λ j. subst (λ z. unsigned_abs z ≤ most) (sym (at-trimmed x.numerators j))
            (elim (cases_lt j 16) [
              | inl lt ↦ over j lt
              | inr le ↦ subst (λ z. unsigned_abs z ≤ most) (sym (past j (omega (arith, degree_small root)))) (omega arith)
            ]);
        positive = member_positive root x is.0;
        bounded = bounded;
      }

  pub number_is_word : IsWord (spelled_number x) 695
  number_is_word = number_word x spellable

-- What is read.

-- division makes no magnitude larger
quotient_small : (g : ℕ) (z : ℤ) → unsigned_abs (quotient g z) ≤ unsigned_abs z
quotient_small g (pos a) = div-le_self a g
quotient_small g (negsuc a) = subst (λ n. n ≤ suc a) (sym (turned (suc a / g))) (div-le_self (suc a) g)
  where
    turned : (n : ℕ) → unsigned_abs (neg_ℤ (pos n)) ≡ n
    turned zero = refl
    turned (suc n) = refl

-- the reduced form of few small numerators over a small denominator
reduced_number : (root : ℕ) (nums : List ℤ) (d : ℕ) → length nums ≤ degree root → ((j : ℕ) → unsigned_abs (at nums j) ≤ most) → 0 < d → d ≤ most → IsNumberOf root (reduced (at nums) d)
unfolding reduced is_held
reduced_number root nums d few small some bounded =
    let g : ℕ = content d 16 (at nums) in
    let sizes : (j : ℕ) → j < 16 → magnitude (reduced (at nums) d) j ≤ most =
    λ j lt. subst (λ z. unsigned_abs z ≤ most) (sym (at-tabulate 16 (λ i. quotient g (at nums i)) j lt)) (let le = quotient_small g (at nums j) in let fits = small j in omega arith) in
    let below : d / g ≤ most = let le = div-le_self d g in omega arith in (
      member_of_reduced root (at nums) d (record { past = λ j le. past_end nums j (omega arith) }) some,
      (both_fit 16 (magnitude (reduced (at nums) d)) (d / g)).1 (record { over = sizes; under = below }),
    )

parts_small : (parts : List (List ℕ)) → list_all part_fits parts ≡ true → (j : ℕ) → unsigned_abs (at (map part_value parts) j) ≤ most
parts_small [] fits j = omega arith
parts_small (p ∷ ps) fits zero = grind (arith, nat_tests)
parts_small (p ∷ ps) fits (suc j) = parts_small ps (grind (arith, nat_tests)) j

map_length : {A B : Type 0} (f : A → B) (xs : List A) → length (map f xs) ≡ length xs
map_length f [] = refl
map_length f (x ∷ xs) = ap suc (map_length f xs)

module _ (root : ℕ) (accepted : is_accepted root ≡ true) (x : Ratio) where
  value_number : (parts : List (List ℕ)) (d : ℕ) → value_of root parts d ≡ Ok x → IsNumberOf root x
  unfolding value_of
  value_number parts d e = go (nat_le (length parts) (totient root)) (list_all part_fits parts) (nat_le d most) (nat_eq d 0) refl refl refl refl e
    where
      go : (few fits bounded none : Bool) → nat_le (length parts) (totient root) ≡ few → list_all part_fits parts ≡ fits → nat_le d most ≡ bounded → nat_eq d 0 ≡ none
          → (if few then (if fits && bounded then (if none then Err ZeroDenominator else Ok (reduced (at (map part_value parts)) d)) else Err TooBig) else Err TooManyParts) ≡ Ok x → IsNumberOf root x
      go false fits bounded none a b c f e = absurd (cc)
      go true false bounded none a b c f e = absurd (cc)
      go true true false none a b c f e = absurd (cc)
      go true true true true a b c f e = absurd (cc)
      go true true true false a b c f e =
          let is : reduced (at (map part_value parts)) d ≡ x = cc in
          let few : length parts ≤ totient root = grind (arith, nat_tests) in
          let some : 0 < d = grind (arith, nat_tests) in
          let bounded : d ≤ most = grind (arith, nat_tests) in
          let count = totient_is root accepted in
          let same = map_length part_value parts in
          subst (IsNumberOf root) is (reduced_number root (map part_value parts) d (omega arith) (parts_small parts b) some bounded)

  over_number : (parts : List (List ℕ)) (under : List ℕ) → number_over root parts under ≡ Ok x → IsNumberOf root x
  unfolding number_over
  over_number parts under e = go (list_all is_part parts && is_natural under) e
    where
      go : (b : Bool) → (if b then value_of root parts (digits_value 10 under) else Err Spelling) ≡ Ok x → IsNumberOf root x
      go false e = absurd (cc)
      go true e = value_number parts (digits_value 10 under) e

  -- what is read of a word is a number of the root's ring, which the type of numbers can hold
  pub number_said : (word : List ℕ) → number_of root word ≡ Ok x → IsNumberOf root x
  unfolding number_of
  number_said word e = go (halves_of (pieces slash word)) e
    where
      go : (o : Option (List ℕ × List ℕ)) → number_by root o ≡ Ok x → IsNumberOf root x
      go None e = absurd (cc)
      go (Some halves) e = over_number (pieces comma halves.0) halves.1 e
