-- Words that can stand in a line, one behind the other.
use Rattle.std.proofs.Common.{◌≡◌, ℕ, ◌+◌, ◌%◌, ◌^◌, ◌<◌, ◌≤◌, List, [], ◌∷◌, ◌++◌, true, length, refl, arith}
use Rattle.std.specs.Fmt.{decimal}
use Rattle.std.proofs.lemmas.Bool.Decides.{nat_tests}
use Rattle.std.proofs.lemmas.List.{length-append}
use Rattle.std.proofs.lemmas.Fmt.{length-decimal-le_wide, decimal_by_steps_wide}
use Rattle.line_text.specs.Spelling.{spaced, plain_bytes, is_plain_word, all_plain, ArePlainLines}

-- a word of at most so many bytes that can stand in a line
pub record IsWord (word : List ℕ) (longest : ℕ) : Type 0 where
  pub plain : is_plain_word word ≡ true
  pub short : length word ≤ longest

pub some_word : (word : List ℕ) → plain_bytes word ≡ true → 0 < length word → is_plain_word word ≡ true
some_word [] e some = absurd (omega arith)
some_word (c ∷ cs) e some = e

pub word_bytes : (word : List ℕ) → is_plain_word word ≡ true → plain_bytes word ≡ true
word_bytes [] e = absurd (cc)
word_bytes (c ∷ cs) e = e

pub bytes_append : (xs ys : List ℕ) → plain_bytes xs ≡ true → plain_bytes ys ≡ true → plain_bytes (xs ++ ys) ≡ true
bytes_append [] ys e f = f
bytes_append (c ∷ cs) ys e f = grind (arith, nat_tests, bytes_append cs ys)

pub word_append : (word tail : List ℕ) → is_plain_word word ≡ true → plain_bytes tail ≡ true → is_plain_word (word ++ tail) ≡ true
word_append [] tail e f = absurd (cc)
word_append (c ∷ cs) tail e f = bytes_append (c ∷ cs) tail e f

pub plain_cons : (c : ℕ) (cs : List ℕ) → 33 ≤ c → c ≤ 126 → plain_bytes cs ≡ true → plain_bytes (c ∷ cs) ≡ true
plain_cons c cs low high e = grind (arith, nat_tests)

-- the digits of a number
decimal_plain : (n : ℕ) → n < 10 ^ 64 → is_plain_word (decimal n) ≡ true
decimal_plain n fits = decimal_by_steps_wide (λ n ds. is_plain_word ds ≡ true) digit more n fits
  where
    digit : (d : ℕ) → d < 10 → plain_bytes ((48 + d) ∷ []) ≡ true
    digit d small = grind (arith, nat_tests)

    more : (n : ℕ) (ds : List ℕ) → 10 ≤ n → is_plain_word ds ≡ true → is_plain_word (ds ++ (48 + n % 10) ∷ []) ≡ true
    more n ds large so_far = word_append ds ((48 + n % 10) ∷ []) so_far (digit (n % 10) (omega arith))

pub decimal_word : (n longest : ℕ) → 0 < longest → n < 10 ^ longest → n < 10 ^ 64 → IsWord (decimal n) longest
decimal_word n longest some short fits = record { plain = decimal_plain n fits; short = length-decimal-le_wide longest n some short fits }

-- words of a line, one behind the other
pub record IsLine (words : List (List ℕ)) (longest : ℕ) : Type 0 where
  pub plain : all_plain words ≡ true
  pub short : length (spaced words) ≤ longest

pub one_word : (word : List ℕ) (longest : ℕ) → IsWord word longest → IsLine (word ∷ []) longest
one_word word longest w = record { plain = rw w.plain refl; short = w.short }

pub word_before : (word next : List ℕ) (words : List (List ℕ)) (m n : ℕ) → IsWord word m → IsLine (next ∷ words) n → IsLine (word ∷ next ∷ words) (m + 1 + n)
word_before word next words m n w l = record {
  plain = rw w.plain l.plain;
  short = omega (arith, w.short, l.short, length-append word (32 ∷ spaced (next ∷ words)));
}

pub plain_append : (ls ms : List (List (List ℕ))) → ArePlainLines ls → ArePlainLines ms → ArePlainLines (ls ++ ms)
plain_append [] ms p q = q
plain_append (l ∷ ls) ms p q = (p.0, plain_append ls ms p.1 q)
