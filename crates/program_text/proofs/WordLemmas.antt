-- Words of programs are plain, and their lines short.
use Rattle.std.proofs.Common.{◌≡◌, ℕ, ◌+◌, ◌<◌, ◌≤◌, List, [], ◌∷◌, ◌++◌, Bool, true, false, ◌&&◌, length, refl, arith}
use Rattle.std.proofs.lemmas.Bool.Decides.{nat_tests}
use Rattle.std.proofs.lemmas.List.{length-append}
use Rattle.line_text.specs.Spelling.{spaced, plain_bytes, is_plain_word}
use Rattle.fusion_rules.specs.Names.{is_name, all_name_bytes}
use Rattle.fusion_rules.proofs.NameLemmas.{spelled}
use Rattle.program_text.specs.Canonical.{opened}

name_bytes : (cs : List ℕ) → all_name_bytes cs ≡ true → plain_bytes cs ≡ true
name_bytes [] e = refl
name_bytes (c ∷ cs) e = grind (arith, nat_tests, name_bytes cs)

some_word : (word : List ℕ) → plain_bytes word ≡ true → 0 < length word → is_plain_word word ≡ true
some_word [] e some = absurd (omega arith)
some_word (c ∷ cs) e some = e

pub record IsWord (word : List ℕ) (most : ℕ) : Type 0 where
  pub plain : is_plain_word word ≡ true
  pub short : length word ≤ most

pub name_word : (word : List ℕ) → is_name word ≡ true → IsWord word 8
name_word word e = let s = spelled word e in record { plain = some_word word (name_bytes word s.0) s.2; short = s.1 }

pub both : (a b : Bool) → (a && b) ≡ true → (a ≡ true) × (b ≡ true)
both true b e = (refl, e)
both false b e = absurd (cc)

bytes_append : (xs ys : List ℕ) → plain_bytes xs ≡ true → plain_bytes ys ≡ true → plain_bytes (xs ++ ys) ≡ true
bytes_append [] ys e f = f
bytes_append (c ∷ cs) ys e f = grind (arith, nat_tests, bytes_append cs ys)

word_bytes : (word : List ℕ) → is_plain_word word ≡ true → plain_bytes word ≡ true
word_bytes [] e = absurd (cc)
word_bytes (c ∷ cs) e = e

word_append : (word tail : List ℕ) → is_plain_word word ≡ true → plain_bytes tail ≡ true → is_plain_word (word ++ tail) ≡ true
word_append [] tail e f = absurd (cc)
word_append (c ∷ cs) tail e f = bytes_append (c ∷ cs) tail e f

-- words of which none is empty, with `(` in front
long_opened : (words : List (List ℕ)) → length (spaced (opened words)) ≤ 1 + length (spaced words)
long_opened [] = omega arith
long_opened (w ∷ []) = omega arith
long_opened (w ∷ v ∷ ws) = omega arith

pub long_push : (words : List (List ℕ)) (word : List ℕ) → length (spaced (words ++ word ∷ [])) ≤ length (spaced words) + 1 + length word
long_push [] word = omega arith
long_push (w ∷ []) word = omega (arith, length-append w (32 ∷ word))
long_push (w ∷ v ∷ ws) word = omega (arith, length-append w (32 ∷ spaced (v ∷ ws ++ word ∷ [])), length-append w (32 ∷ spaced (v ∷ ws)), long_push (v ∷ ws) word)
