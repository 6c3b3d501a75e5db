-- Plain numbers.
use Rattle.std.specs.Prelude.{◌≡◌, ◌<◌, ◌^◌, ℕ, List, [], ◌∷◌, Bool, false, not, ◌&&◌, ◌||◌, ◌==◌, nat_lt, length, if◌then◌else◌, Option, Some, None}
use Rattle.std.specs.Str.{all_ascii_digits}
use Rattle.std.specs.Str.Parse.{digits_value}
use Rattle.std.specs.Fmt.{decimal}

-- whether a word is `0`, or a digit from 1 to 9 and further digits; nine digits at most
abbrev pub is_plain_number : List ℕ → Bool
is_plain_number [] = false
is_plain_number (first ∷ rest) =
    nat_lt (length rest) 9 && (all_ascii_digits (first ∷ rest) && (not (first == 48) || length rest == 0))

-- the number of a word that is one
abbrev pub plain_number_of : List ℕ → Option ℕ
plain_number_of word = if is_plain_number word then Some (digits_value 10 word) else None

-- a number of at most nine digits is read again from its spelling
abbrev pub NumberAgain : Type 0
NumberAgain = (n : ℕ) → n < 10 ^ 9 → plain_number_of (decimal n) ≡ Some n

-- a word that is read is the spelling of its number
abbrev pub NumberExact : Type 0
NumberExact = (word : List ℕ) (n : ℕ) → plain_number_of word ≡ Some n → word ≡ decimal n
