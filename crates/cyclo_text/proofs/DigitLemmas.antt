-- Digits and their values.
use Rattle.std.proofs.Common.{◌≡◌, ℕ, ◌+◌, ◌-◌, ◌*◌, ◌^◌, ◌<◌, ◌≤◌, List, [], ◌∷◌, Bool, true, false, ◌||◌, refl, ap, ap₂, ◌∙◌, arith, rules, length, take, get_or, lit≤}
use Rattle.std.specs.Prelude.{if◌then◌else◌, unsigned_abs}
use Rattle.std.proofs.lemmas.Int.{ints}
use Rattle.std.proofs.lemmas.Bool.Decides.{nat_tests}
use Rattle.std.specs.Char.{digit_value}
use Rattle.std.specs.Int.{IsInRange}
use Rattle.std.specs.Str.{all_ascii_digits, bytes_eq}
use Rattle.std.specs.Str.Parse.{digits_value}
use Rattle.std.proofs.lemmas.Int.Digits.{digits_value_more}
use Rattle.std.proofs.lemmas.Slice.Eq.{bytes_eq-Decides}
use Rattle.std.proofs.lemmas.Str.Parse.{IsNumeralModel, numerals_by_value, tells_all_ascii_digits, digit_at, digits_value-take-le}
use Rattle.cyclo_text.specs.NumberWords.{is_positive, is_natural, is_part, is_minus, digits_of, signed_by, part_value, part_fits}

model : IsNumeralModel (λ ds. all_ascii_digits ds ≡ true) (digits_value 10)
model = numerals_by_value (λ ds. all_ascii_digits ds ≡ true) tells_all_ascii_digits

pub digit_in : (ds : List ℕ) (i : ℕ) → all_ascii_digits ds ≡ true → i < length ds → IsInRange 48 57 (get_or ds i 0)
digit_in ds i all in_ds = digit_at ds i (model.to ds all) in_ds

-- one digit more
pub value_more : (ds : List ℕ) (i : ℕ) → all_ascii_digits ds ≡ true → i < length ds → digits_value 10 (take (i + 1) ds) ≡ digits_value 10 (take i ds) * 10 + (get_or ds i 0 - 48)
value_more ds i all in_ds =
    let range = digit_in ds i all in_ds in
    digits_value_more 10 ds i in_ds ∙ ap (λ d. digits_value 10 (take i ds) * 10 + d) (value_is (get_or ds i 0) range)
  where
    value_is : (c : ℕ) → IsInRange 48 57 c → digit_value c ≡ c - 48
    value_is c range = grind (arith, nat_tests)

pub value_least : (ds : List ℕ) (i : ℕ) → digits_value 10 (take i ds) ≤ digits_value 10 ds
value_least ds i = digits_value-take-le 10 ds i (lit≤ tt)

pub positive_digits : (ds : List ℕ) → is_positive ds ≡ true → all_ascii_digits ds ≡ true
positive_digits [] is = absurd (cc)
positive_digits (c ∷ cs) is = grind (arith, nat_tests)

pub natural_digits : (ds : List ℕ) → is_natural ds ≡ true → all_ascii_digits ds ≡ true
unfolding is_natural
natural_digits ds is = by_test (bytes_eq ds (48 ∷ [])) refl is
  where
    by_test : (b : Bool) → bytes_eq ds (48 ∷ []) ≡ b → (b || is_positive ds) ≡ true → all_ascii_digits ds ≡ true
    by_test true e h =
        let word : ds ≡ 48 ∷ [] = search (rules, bytes_eq-Decides) in
        rw word refl
    by_test false e h = positive_digits ds h

pub part_digits : (part : List ℕ) → is_part part ≡ true → all_ascii_digits (digits_of part) ≡ true
unfolding is_part
part_digits part is = by_test (is_minus part) is
  where
    by_test : (b : Bool) → (if b then is_positive (digits_of part) else is_natural (digits_of part)) ≡ true → all_ascii_digits (digits_of part) ≡ true
    by_test true h = positive_digits (digits_of part) h
    by_test false h = natural_digits (digits_of part) h

signed_size : (b : Bool) (n : ℕ) → unsigned_abs (signed_by b n) ≡ n
signed_size true n = omega (arith, ints)
signed_size false n = refl

size_is : (part : List ℕ) → unsigned_abs (part_value part) ≡ digits_value 10 (digits_of part)
unfolding part_value
size_is part = signed_size (is_minus part) (digits_value 10 (digits_of part))

pub part_small : (part : List ℕ) → digits_value 10 (digits_of part) ≤ 2 ^ 127 - 1 → part_fits part ≡ true
part_small part le = let size = size_is part in grind (arith, nat_tests)

pub part_large : (part : List ℕ) → 2 ^ 127 - 1 < digits_value 10 (digits_of part) → part_fits part ≡ false
part_large part lt = let size = size_is part in grind (arith, nat_tests)

pub part_is : (part : List ℕ) (minus : Bool) (n : ℕ) → minus ≡ is_minus part → n ≡ digits_value 10 (digits_of part) → signed_by minus n ≡ part_value part
unfolding part_value
part_is part minus n e h = ap₂ signed_by e h
