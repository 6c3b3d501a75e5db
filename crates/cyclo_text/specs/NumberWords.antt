-- The words of cyclotomic numbers: parts joined by `,`, and, if wanted, `/` and a denominator. Part j is the
-- numerator of z^j; parts that aren't written are zero.
use Rattle.std.specs.Prelude.{ℕ, ℤ, pos, neg_ℤ, unsigned_abs, List, [], ◌∷◌, ◌++◌, map, length, Bool, true, false, ◌&&◌, ◌||◌, ◌==◌, nat_lt, nat_le, nat_eq, if◌then◌else◌, Option, Some, None, Result, Ok, Err}
use Rattle.std.specs.Char.{is_ascii_digit}
use Rattle.std.specs.Fmt.{decimal, signed_decimal}
use Rattle.std.specs.List.{slice_split, join_with_byte, list_all}
use Rattle.std.specs.Str.{all_ascii_digits, bytes_eq}
use Rattle.std.specs.Str.Parse.{digits_value}
use Rattle.ring_laws.specs.Whole.{int_equal}
use Rattle.poly_core.specs.Gcd.{totient}
use Rattle.poly_core.specs.Table.{at}
use Rattle.cyclo_core.specs.Ratio.{Ratio, most, reduced}
use Rattle.cyclo_text.specs.declared.fault.NumberWord.{NumberWord}
use Rattle.cyclo_text.specs.declared.fault.NumberWord.TheVariants.{Spelling, TooManyParts, TooBig, ZeroDenominator}

abbrev pub comma : ℕ
comma = 44

abbrev pub slash : ℕ
slash = 47

-- the pieces of a word between the bytes `at`
abbrev pub pieces : ℕ → List ℕ → List (List ℕ)
pieces at word = slice_split (λ b. b == at) word

-- a digit from 1 to 9, and further digits
abbrev pub is_positive : List ℕ → Bool
is_positive [] = false
is_positive (first ∷ rest) = nat_lt 48 first && (is_ascii_digit first && all_ascii_digits rest)

-- `0`, or a digit from 1 to 9 and further digits
unfoldable pub is_natural : List ℕ → Bool
is_natural word = bytes_eq word (48 ∷ []) || is_positive word

-- whether a part begins with `-`, and what stands behind it
abbrev pub is_minus : List ℕ → Bool
is_minus [] = false
is_minus (first ∷ rest) = first == 45

abbrev pub digits_of : List ℕ → List ℕ
digits_of [] = []
digits_of (first ∷ rest) = if first == 45 then rest else first ∷ rest

-- `0`, or an optional `-`, a digit from 1 to 9 and further digits
unfoldable pub is_part : List ℕ → Bool
is_part part = if is_minus part then is_positive (digits_of part) else is_natural (digits_of part)

abbrev pub signed_by : Bool → ℕ → ℤ
signed_by true n = neg_ℤ (pos n)
signed_by false n = pos n

-- the number of a part
unfoldable pub part_value : List ℕ → ℤ
part_value part = signed_by (is_minus part) (digits_value 10 (digits_of part))

abbrev pub part_fits : List ℕ → Bool
part_fits part = nat_le (unsigned_abs (part_value part)) most

-- the number of spelled parts over a spelled denominator
unfoldable pub value_of : ℕ → List (List ℕ) → ℕ → Result Ratio NumberWord
value_of root parts under =
    if nat_le (length parts) (totient root) then (
    if list_all part_fits parts && nat_le under most then (
    if nat_eq under 0 then Err ZeroDenominator else Ok (reduced (at (map part_value parts)) under))
    else Err TooBig) else Err TooManyParts

-- the number of parts and a denominator as they are written
unfoldable pub number_over : ℕ → List (List ℕ) → List ℕ → Result Ratio NumberWord
number_over root parts under =
    if list_all is_part parts && is_natural under then value_of root parts (digits_value 10 under) else Err Spelling

-- what stands before the one `/`, and what stands after it: `1` where there is none
unfoldable pub halves_of : List (List ℕ) → Option (List ℕ × List ℕ)
halves_of [] = None
halves_of (front ∷ []) = Some (front, 49 ∷ [])
halves_of (front ∷ under ∷ []) = Some (front, under)
halves_of (front ∷ under ∷ third ∷ more) = None

-- the number of a word for a root, or why there is none
abbrev pub number_by : ℕ → Option (List ℕ × List ℕ) → Result Ratio NumberWord
number_by root None = Err Spelling
number_by root (Some halves) = number_over root (pieces comma halves.0) halves.1

unfoldable pub number_of : ℕ → List ℕ → Result Ratio NumberWord
number_of root word = number_by root (halves_of (pieces slash word))

-- the parts up to the last that isn't zero, or the first one alone
abbrev pub all_zero : List ℤ → Bool
all_zero numbers = list_all (λ z. int_equal z (pos 0)) numbers

unfoldable pub trimmed : List ℤ → List ℤ
trimmed [] = []
trimmed (x ∷ xs) = if all_zero xs then x ∷ [] else x ∷ trimmed xs

-- the one canonical spelling of a number
unfoldable pub spelled_number : Ratio → List ℕ
spelled_number x =
    join_with_byte comma (map signed_decimal (trimmed x.numerators)) ++ (if nat_eq x.denominator 1 then [] else slash ∷ decimal x.denominator)
