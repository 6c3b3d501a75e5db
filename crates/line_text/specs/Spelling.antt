-- The one spelling of lines that are given as words.
use Rattle.std.specs.Prelude.{◌≡◌, ℕ, ◌+◌, ◌≤◌, List, [], ◌∷◌, ◌++◌, Bool, true, false, ◌&&◌, nat_lt, length, if◌then◌else◌}
use Rattle.line_text.specs.declared.line.TheConstants.{LINE_LIMIT}
use Rattle.line_text.specs.Text.{Found, Counted, skips, found_in, lines_of, words_of}

-- words with one space between two
abbrev pub spaced : List (List ℕ) → List ℕ
spaced [] = []
spaced (word ∷ []) = word
spaced (word ∷ next ∷ words) = word ++ 32 ∷ spaced (next ∷ words)

-- lines, each with its end
abbrev pub spelled : List (List (List ℕ)) → List ℕ
spelled [] = []
spelled (words ∷ lines) = spaced words ++ 10 ∷ spelled lines

-- bytes that can stand in a word
abbrev pub plain_bytes : List ℕ → Bool
plain_bytes [] = true
plain_bytes (c ∷ cs) = if nat_lt c 33 then false else (if nat_lt 126 c then false else plain_bytes cs)

-- a word that can be spelled: not empty, without spaces
abbrev pub is_plain_word : List ℕ → Bool
is_plain_word [] = false
is_plain_word (c ∷ cs) = plain_bytes (c ∷ cs)

abbrev pub all_plain : List (List ℕ) → Bool
all_plain [] = true
all_plain (word ∷ words) = is_plain_word word && all_plain words

-- words that can stand in a line which counts
pub record IsPlainLine (words : List (List ℕ)) : Type 0 where
  pub plain : all_plain words ≡ true
  pub counts : skips words ≡ false
  pub short : length (spaced words) ≤ LINE_LIMIT

abbrev pub ArePlainLines : List (List (List ℕ)) → Type 0
ArePlainLines [] = Unit {0}
ArePlainLines (words ∷ lines) = IsPlainLine words × ArePlainLines lines

-- such lines as they are found, where `passed` lines stand before them
abbrev pub counted : ℕ → List (List (List ℕ)) → List Found
counted passed [] = []
counted passed (words ∷ lines) = Counted (passed + 1) (spaced words) ∷ counted (passed + 1) lines

-- lines that are spelled are found again, each with its number
abbrev pub LinesAgain : Type 0
LinesAgain = (passed : ℕ) (lines : List (List (List ℕ))) → ArePlainLines lines → found_in passed (lines_of (spelled lines)) ≡ counted passed lines

-- words that are spelled in a line are its words
abbrev pub WordsAgain : Type 0
WordsAgain = (words : List (List ℕ)) → all_plain words ≡ true → words_of (spaced words) ≡ words
