-- The cases of a number word, and the step of its values.
use Rattle.std.proofs.Common.{◌≡◌, ℕ, zero, suc, ◌+◌, ◌-◌, ◌^◌, ◌<◌, ◌≤◌, Bool, true, false, ◌&&◌, List, ◌∷◌, length, refl, sym, ap, ◌∙◌, arith, length-set}
use Rattle.std.specs.Prelude.{ℤ, pos, map, set, nat_le, nat_eq, unsigned_abs, Some, None, Ok, Err, Result, if◌then◌else◌}
use Rattle.std.specs.List.{list_all}
use Rattle.std.specs.Str.Parse.{digits_value}
use Rattle.std.proofs.lemmas.Int.{ints}
use Rattle.std.proofs.lemmas.Bool.Decides.{nat_tests}
use Rattle.poly_core.specs.Combination.{Sequence, pointwise}
use Rattle.poly_core.specs.Gcd.{totient}
use Rattle.poly_core.specs.Table.{at}
use Rattle.poly_core.proofs.Filling.{more}
use Rattle.cyclo_core.specs.Given.{are_small, number_of as given}
use Rattle.cyclo_core.specs.Ratio.{Ratio, reduced, most}
use Rattle.cyclo_core.specs.declared.fault.NumberFault.{NumberFault}
use Rattle.cyclo_core.specs.declared.fault.NumberFault.TheVariants.{TooBig as Big, ZeroDenominator as Zero}
use Rattle.cyclo_core.proofs.GivenLemmas.{small_under, number_of-zero, number_of-plus}
use Rattle.cyclo_text.specs.NumberWords.{slash, comma, pieces, is_natural, is_part, part_value, part_fits, value_of, number_over, number_by, halves_of, number_of}
use Rattle.cyclo_text.specs.declared.fault.NumberWord.{NumberWord}
use Rattle.cyclo_text.specs.declared.fault.NumberWord.TheVariants.{Spelling, TooManyParts, TooBig, ZeroDenominator}

yes : (a b : ℕ) → a ≤ b → nat_le a b ≡ true
yes a b h = grind (arith, nat_tests)

no : (a b : ℕ) → (a ≤ b → ⊥) → nat_le a b ≡ false
no a b h = grind (arith, nat_tests)

-- ---- the cases
pub number_of-none : (root : ℕ) (word : List ℕ) → halves_of (pieces slash word) ≡ None → number_of root word ≡ Err Spelling
unfolding number_of
number_of-none root word e = ap (number_by root) e

pub number_of-halves : (root : ℕ) (word front under : List ℕ) → halves_of (pieces slash word) ≡ Some (front, under) → number_of root word ≡ number_over root (pieces comma front) under
unfolding number_of
number_of-halves root word front under e = ap (number_by root) e

pub number_over-parts : (root : ℕ) (parts : List (List ℕ)) (under : List ℕ) → list_all is_part parts ≡ false → number_over root parts under ≡ Err Spelling
unfolding number_over
number_over-parts root parts under e = rw e refl

pub number_over-under : (root : ℕ) (parts : List (List ℕ)) (under : List ℕ) → list_all is_part parts ≡ true → is_natural under ≡ false → number_over root parts under ≡ Err Spelling
unfolding number_over
number_over-under root parts under e f = rw (e, f) refl

pub number_over-spelled : (root : ℕ) (parts : List (List ℕ)) (under : List ℕ) → list_all is_part parts ≡ true → is_natural under ≡ true → number_over root parts under ≡ value_of root parts (digits_value 10 under)
unfolding number_over
number_over-spelled root parts under e f = rw (e, f) refl

pub value_of-many : (root : ℕ) (parts : List (List ℕ)) (u : ℕ) → (length parts ≤ totient root → ⊥) → value_of root parts u ≡ Err TooManyParts
unfolding value_of
value_of-many root parts u many = let e = no (length parts) (totient root) many in rw e refl

pub value_of-big : (root : ℕ) (parts : List (List ℕ)) (u : ℕ) → length parts ≤ totient root → list_all part_fits parts ≡ false → value_of root parts u ≡ Err TooBig
unfolding value_of
value_of-big root parts u few big = let e = yes (length parts) (totient root) few in rw (e, big) refl

pub value_of-big_under : (root : ℕ) (parts : List (List ℕ)) (u : ℕ) → length parts ≤ totient root → list_all part_fits parts ≡ true → most < u → value_of root parts u ≡ Err TooBig
unfolding value_of
value_of-big_under root parts u few fits big =
    let e = yes (length parts) (totient root) few in
    let f = no u most (λ le. omega arith) in
    rw (e, fits, f) refl

pub value_of-fits : (root : ℕ) (parts : List (List ℕ)) (u : ℕ) → length parts ≤ totient root → list_all part_fits parts ≡ true → u ≤ most
    → value_of root parts u ≡ (if nat_eq u 0 then Err ZeroDenominator else Ok (reduced (at (map part_value parts)) u))
unfolding value_of
value_of-fits root parts u few fits small =
    let e = yes (length parts) (totient root) few in
    let f = yes u most small in
    rw (e, fits, f) refl

-- what a call of the ring's own test gives, and what the word has then
abbrev pub worded : Result Ratio NumberFault → Result Ratio NumberWord
worded (Ok z) = Ok z
worded (Err Big) = Err TooBig
worded (Err Zero) = Err ZeroDenominator

pub value_of-given : (root : ℕ) (parts : List (List ℕ)) (u : ℕ) (nums : List ℤ) (r : Result Ratio NumberFault)
    → length parts ≤ totient root → list_all part_fits parts ≡ true → u ≤ most
    → ((j : ℕ) → at nums j ≡ at (map part_value parts) j) → ((j : ℕ) → unsigned_abs (at nums j) ≤ 2 ^ 127 - 1)
    → r ≡ given nums (pos u) → worded r ≡ value_of root parts u
value_of-given root parts zero nums r few fits small value sizes e =
    let all : are_small nums (pos zero) ≡ true = small_under nums (pos zero) (λ j lt. sizes j) in
    ap worded (e ∙ number_of-zero nums (pos zero) all refl) ∙ sym (value_of-fits root parts zero few fits small)
value_of-given root parts (suc u) nums r few fits small value sizes e =
    let all : are_small nums (pos (suc u)) ≡ true = small_under nums (pos (suc u)) (λ j lt. sizes j) ∙ yes (suc u) most small in
    let some : nat_eq (suc u) 0 ≡ false = grind (arith, nat_tests) in
    let same : at nums ≡ at (map part_value parts) = pointwise value in
    ap worded (e ∙ number_of-plus nums (pos (suc u)) all (omega (arith, ints)))
    ∙ ap (λ (f : Sequence). Ok (reduced f (suc u))) same
    ∙ sym (value_of-fits root parts (suc u) few fits small ∙ ap (λ b. if b then Err ZeroDenominator else Ok (reduced (at (map part_value parts)) (suc u))) some)

-- ---- the values
pub record Going (all left : List (List ℕ)) (j : ℕ) (numbers : List ℤ) : Type 0 where
  pub count : length left + j ≡ length all
  pub parts : list_all is_part left ≡ true
  pub fits : list_all part_fits left ≡ list_all part_fits all
  pub ahead : (k : ℕ) → at (map part_value all) (j + k) ≡ at (map part_value left) k
  pub value : (k : ℕ) → k < j → at numbers k ≡ at (map part_value all) k
  pub rest : (k : ℕ) → j ≤ k → at numbers k ≡ pos 0
  pub len : length numbers ≡ 16
  pub small : (k : ℕ) → unsigned_abs (at numbers k) ≤ 2 ^ 127 - 1

both_true : (a b : Bool) → (a && b) ≡ true → b ≡ true
both_true true b h = h
both_true false b h = cc

pub going_more : (all left : List (List ℕ)) (part : List ℕ) (j : ℕ) (numbers : List ℤ) (v : ℤ) → length all ≤ 16
    → v ≡ part_value part → part_fits part ≡ true → unsigned_abs v ≤ 2 ^ 127 - 1
    → Going all (part ∷ left) j numbers → Going all left (j + 1) (set numbers j v)
going_more all left part j numbers v few is fit small g =
    let count : suc (length left) + j ≡ length all = g.count in
    let len = g.len in
    let ahead = g.ahead in
    let value = g.value in
    let rest = g.rest in
    let sizes = g.small in
    let here : at (map part_value all) j ≡ part_value part = ap (at (map part_value all)) (index j) ∙ ahead 0 in
    let P : ℕ → ℤ → Type 0 = λ k z. z ≡ at (map part_value all) k in
    let S : ℤ → Type 0 = λ z. unsigned_abs z ≤ 2 ^ 127 - 1 in
    let next = more numbers j v P S (omega arith) (is ∙ sym here) small (record { value = value; rest = rest; small = sizes }) in
    record {
      count = omega (arith, count);
      parts = both_true (is_part part) (list_all is_part left) g.parts;
      fits = ap (λ b. b && list_all part_fits left) (sym fit) ∙ g.fits;
      ahead = λ k. ap (at (map part_value all)) (step j k) ∙ ahead (suc k);
      value = next.value;
      rest = next.rest;
      len = length-set _ _ _ ∙ len;
      small = next.small;
    }
  where
    index : (j : ℕ) → j ≡ j + 0
    index j = omega arith

    step : (j k : ℕ) → j + 1 + k ≡ j + suc k
    step j k = omega arith
