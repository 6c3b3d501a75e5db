-- Plain numbers and their spelling.
use Rattle.std.proofs.Common.{◌≡◌, ℕ, zero, suc, ◌+◌, ◌-◌, ◌*◌, ◌^◌, ◌<◌, ◌≤◌, List, [], ◌∷◌, Bool, true, false, not, ◌&&◌, ◌||◌, ◌==◌, ltb, refl, sym, ap, ◌∙◌, arith, length, take, get_or, if◌then◌else◌, Some, None}
use Rattle.std.proofs.lemmas.Bool.Decides.{nat_tests}
use Rattle.std.proofs.lemmas.Fmt.{decimal_digit, decimal_nonempty, first_decimal, length-decimal-le, digits_decimal, digits_value-decimal, decimal-digits_value}
use Rattle.std.specs.Fmt.{decimal}
use Rattle.std.specs.Char.{digit_value}
use Rattle.std.specs.Str.{all_ascii_digits}
use Rattle.std.specs.Str.Parse.{digits_value}
use Rattle.std.specs.Int.{IsInRange}
use Rattle.std.proofs.lemmas.Int.Digits.{digits_value_more}
use Rattle.std.proofs.lemmas.Str.Parse.{IsNumeralModel, numerals_by_value, tells_all_ascii_digits, digit_at, digits_value-take-le, digits_value_short}
use Rattle.line_text.specs.Plain.{is_plain_number, NumberAgain, NumberExact}

model : IsNumeralModel (λ ds. all_ascii_digits ds ≡ true) (digits_value 10)
model = numerals_by_value (λ ds. all_ascii_digits ds ≡ true) tells_all_ascii_digits

-- what the test of a plain number says
pub record IsPlain (word : List ℕ) : Type 0 where
  pub some : 0 < length word
  pub short : length word ≤ 9
  pub digits : all_ascii_digits word ≡ true
  pub first : get_or word 0 0 ≡ 48 → length word ≡ 1

pub plain_is : (word : List ℕ) → is_plain_number word ≡ true → IsPlain word
plain_is [] is = absurd (cc)
plain_is (c ∷ cs) is = by_tests (ltb (length cs) 9) (all_ascii_digits (c ∷ cs)) (c == 48) (length cs == 0) refl refl refl refl is
  where
    by_tests : (short digits zeroes alone : Bool) → ltb (length cs) 9 ≡ short → all_ascii_digits (c ∷ cs) ≡ digits → (c == 48) ≡ zeroes → (length cs == 0) ≡ alone
        → (short && (digits && (not zeroes || alone))) ≡ true → IsPlain (c ∷ cs)
    by_tests false digits zeroes alone e f g h is = absurd (cc)
    by_tests true false zeroes alone e f g h is = absurd (cc)
    by_tests true true true false e f g h is = absurd (cc)
    by_tests true true true true e f g h is = record { some = omega arith; short = grind (arith, nat_tests); digits = f; first = λ (_ : c ≡ 48). grind (arith, nat_tests) }
    by_tests true true false alone e f g h is = record { some = omega arith; short = grind (arith, nat_tests); digits = f; first = λ (at : c ≡ 48). absurd (grind (arith, nat_tests)) }

is_plain : (word : List ℕ) → IsPlain word → is_plain_number word ≡ true
is_plain [] is = absurd (omega (arith, is.some))
is_plain (c ∷ cs) is = by_test (c == 48) refl
  where
    short : ltb (length cs) 9 ≡ true
    short = let s = is.short in grind (arith, nat_tests)

    by_test : (zeroes : Bool) → (c == 48) ≡ zeroes → is_plain_number (c ∷ cs) ≡ true
    by_test false e = rw (short, is.digits, e) refl
    by_test true e =
        let one : length (c ∷ cs) ≡ 1 = is.first (grind (arith, nat_tests)) in
        let alone : (length cs == 0) ≡ true = grind (arith, nat_tests) in
        rw (short, is.digits, e, alone) refl

pub number_again : NumberAgain
number_again n small = rw (is_plain (decimal n) plain) (ap Some (digits_value-decimal model n (omega arith)))
  where
    first : (m : ℕ) → n ≡ m → get_or (decimal n) 0 0 ≡ 48 → length (decimal n) ≡ 1
    first zero e at = ap (λ (k : ℕ). length (decimal k)) e ∙ ap length (decimal_digit 0 (omega arith))
    first (suc m) e at = absurd (omega (arith, first_decimal n (omega arith) (omega arith)))

    plain : IsPlain (decimal n)
    plain = record {
      some = decimal_nonempty n (omega arith);
      short = length-decimal-le 9 n (omega arith) small (omega arith);
      digits = digits_decimal model n (omega arith);
      first = first n refl;
    }

-- a plain number has at most nine digits
pub plain_small : (word : List ℕ) → is_plain_number word ≡ true → digits_value 10 word < 10 ^ 9
plain_small word is = let plain = plain_is word is in digits_value_short model word 9 plain.digits plain.short

pub number_exact : NumberExact
number_exact word n e = by_test (is_plain_number word) refl e
  where
    by_test : (b : Bool) → is_plain_number word ≡ b → (if b then Some (digits_value 10 word) else None) ≡ Some n → word ≡ decimal n
    by_test false is e = absurd (cc)
    by_test true is e =
        let plain = plain_is word is in
        let same : digits_value 10 word ≡ n = cc in
        sym (decimal-digits_value model word plain.digits plain.some plain.first (omega (arith, plain_small word is))) ∙ ap decimal same

-- a digit of a plain number
pub digit_in : (word : List ℕ) (i : ℕ) → is_plain_number word ≡ true → i < length word → IsInRange 48 57 (get_or word i 0)
digit_in word i is inside = digit_at word i (model.to word (plain_is word is).digits) inside

-- one digit more
pub value_more : (word : List ℕ) (i : ℕ) → is_plain_number word ≡ true → i < length word → digits_value 10 (take (i + 1) word) ≡ digits_value 10 (take i word) * 10 + (get_or word i 0 - 48)
value_more word i is inside =
    let range = digit_in word i is inside in
    digits_value_more 10 word i inside ∙ ap (λ d. digits_value 10 (take i word) * 10 + d) (value_is (get_or word i 0) range)
  where
    value_is : (c : ℕ) → IsInRange 48 57 c → digit_value c ≡ c - 48
    value_is c range = grind (arith, nat_tests)

-- the digits so far are no more than all
pub value_so_far : (word : List ℕ) (i : ℕ) → is_plain_number word ≡ true → digits_value 10 (take i word) < 10 ^ 9
value_so_far word i is = omega (arith, digits_value-take-le 10 word i (omega arith), plain_small word is)
