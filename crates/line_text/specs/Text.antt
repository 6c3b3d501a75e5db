-- Texts, lines and words.
use Rattle.std.specs.Prelude.{◌≡◌, ℕ, ◌+◌, List, [], ◌∷◌, Bool, true, false, ◌==◌, nat_lt, length, slice_index, slice_index_or, if◌then◌else◌, Option, Some, None, Result, Ok, Err}
use Rattle.std.specs.List.{onto_first}
use Rattle.std.specs.Str.{bytes_eq}
use Rattle.line_text.specs.declared.line.TheConstants.{LINE_LIMIT}
use Rattle.line_text.specs.declared.fault.LineCause.{LineCause}
use Rattle.line_text.specs.declared.fault.LineCause.TheVariants.{TooLong, NotAscii}
use Rattle.line_text.specs.declared.fault.LineFault.{LineFault}
use Rattle.line_text.specs.declared.line.Line.{Line}

-- whether a byte is the separator
abbrev pub is_byte : ℕ → ℕ → Bool
is_byte at c = c == at

-- the parts that each end with the byte `at`; the last may lack it
abbrev pub parts_of : ℕ → List ℕ → List (List ℕ)
parts_of at [] = []
parts_of at (c ∷ cs) = if is_byte at c then [] ∷ parts_of at cs else onto_first c (parts_of at cs)

-- the lines of a text, each without its end
abbrev pub lines_of : List ℕ → List (List ℕ)
lines_of text = parts_of 10 text

-- words with one more in front, unless it is empty
abbrev pub with_word : List ℕ → List (List ℕ) → List (List ℕ)
with_word [] words = words
with_word (c ∷ cs) words = (c ∷ cs) ∷ words

-- the parts that aren't empty
abbrev pub not_empty : List (List ℕ) → List (List ℕ)
not_empty [] = []
not_empty (part ∷ parts) = with_word part (not_empty parts)

-- the words of a line: its parts between spaces that aren't empty
abbrev pub words_of : List ℕ → List (List ℕ)
words_of line = not_empty (parts_of 32 line)

-- the word at a place counted from 0, or nothing
abbrev pub word_in : List (List ℕ) → ℕ → List ℕ
word_in words place = slice_index_or words place []

-- whether this word stands at a place
abbrev pub has_word : List (List ℕ) → ℕ → List ℕ → Bool
has_word words place text = bytes_eq (word_in words place) text

-- whether every byte is from 0x20 to 0x7E
abbrev pub all_printable : List ℕ → Bool
all_printable [] = true
all_printable (c ∷ cs) = if nat_lt c 32 then false else (if nat_lt 126 c then false else all_printable cs)

-- why a line can't be read
abbrev pub first_cause : List ℕ → Option LineCause
first_cause line = if nat_lt LINE_LIMIT (length line) then Some TooLong else (if all_printable line then None else Some NotAscii)

-- whether words make no line that counts: there is none, or the first begins with `#`
abbrev pub skips : List (List ℕ) → Bool
skips [] = true
skips (word ∷ words) = slice_index word 0 == 35

-- whether a line doesn't count
abbrev pub is_skipped : List ℕ → Bool
is_skipped line = skips (words_of line)

-- what a text has for its reader: the lines that count, up to the first that can't be read
pub data Found : Type 0 where
  Counted : (number : ℕ) (text : List ℕ) → Found
  Faulty : (number : ℕ) (cause : LineCause) → Found

-- what is found at one line, with what is found behind it
abbrev pub found_by : ℕ → List ℕ → Option LineCause → Bool → List Found → List Found
found_by number line (Some cause) skipped later = Faulty number cause ∷ []
found_by number line None skipped later = if skipped then later else Counted number line ∷ later

-- the lines that count, where `passed` lines stand before them
abbrev pub found_in : ℕ → List (List ℕ) → List Found
found_in passed [] = []
found_in passed (line ∷ lines) = found_by (passed + 1) line (first_cause line) (is_skipped line) (found_in (passed + 1) lines)

-- a text of which some lines were read
pub record Reading : Type 0 where
  -- what is still to be found
  pub ahead : List Found
  -- the number of lines of the whole text
  pub count : ℕ

-- the text that is left where `passed` lines were read
abbrev pub reading_of : ℕ → List ℕ → Reading
reading_of passed text = record { ahead = found_in passed (lines_of text); count = passed + length (lines_of text) }

-- what a call for the next line gives and leaves: a line with what is ahead behind it, the end, or a fault that stays
abbrev pub FindsNext : Result (Option Line) LineFault → Reading → Reading → Type 0
FindsNext (Ok None) old new = (old.ahead ≡ []) × (new ≡ old)
FindsNext (Ok (Some line)) old new = (old.ahead ≡ Counted line.number line.text.now ∷ new.ahead) × (new.count ≡ old.count)
FindsNext (Err fault) old new = (old.ahead ≡ Faulty fault.line fault.cause ∷ []) × (new ≡ old)
