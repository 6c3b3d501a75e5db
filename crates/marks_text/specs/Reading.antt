-- A category with the marks of a text, or the text's first fault.
use Rattle.std.specs.Prelude.{ℕ, ◌+◌, List, [], ◌∷◌, Bool, ◌&&◌, ◌==◌, nat_lt, length, codes, if◌then◌else◌, Option, Some, is_some, Result, Ok, Err, ok_or}
use Rattle.std.specs.Str.{bytes_eq}
use Rattle.line_text.specs.Text.{Found, Counted, Faulty, reading_of, words_of, word_in, has_word}
use Rattle.cyclo_core.specs.Ratio.{Ratio}
use Rattle.cyclo_text.specs.NumberWords.{number_of}
use Rattle.cyclo_text.specs.declared.fault.NumberWord.{NumberWord}
use Rattle.fusion_rules.specs.Names.{label_of}
use Rattle.symbol_table.specs.Symbols.{Given}
use Rattle.category_text.specs.Named.{NamedSymbols}
use Rattle.category_text.specs.Reading.{◌>>=◌}
use Rattle.marks_text.specs.declared.fault.MarksCause.{MarksCause}
use Rattle.marks_text.specs.declared.fault.MarksCause.TheVariants.{Line, Header, Word, Short, Long, UnknownLabel, Repeated, Number}
use Rattle.marks_text.specs.declared.mark.MarkKind.{MarkKind}
use Rattle.marks_text.specs.declared.mark.MarkKind.TheVariants.{Twist, Loop}

-- a line that is refused, with its first cause
pub record Fault : Type 0 where
  pub line : ℕ
  pub cause : MarksCause

-- a cause, as the fault of a line
abbrev pub on_line : {A : Type 0} → ℕ → Result A MarksCause → Result A Fault
on_line number (Ok x) = Ok x
on_line number (Err cause) = Err (record { line = number; cause = cause })

-- A line behind the first.

-- the kind of mark that a line's first word names
abbrev pub kind_of : List ℕ → Result MarkKind MarksCause
kind_of text = if bytes_eq text (codes "twist") then Ok Twist else (if bytes_eq text (codes "loop") then Ok Loop else Err Word)

-- three words, or too few, or too many
abbrev pub sized : List (List ℕ) → Result Unit MarksCause
sized words = if nat_lt (length words) 3 then Err Short else (if nat_lt 3 (length words) then Err Long else Ok tt)

abbrev pub label : List (List ℕ) → List ℕ → Result ℕ MarksCause
label names text = ok_or (label_of names text) UnknownLabel

-- the marks of a kind that were set, by their labels
abbrev pub marks_of : Given Ratio → MarkKind → ℕ → Option Ratio
marks_of g Twist = g.set_twist
marks_of g Loop = g.set_loop

-- no mark of this kind was set before
abbrev pub unset : Option Ratio → Result Unit MarksCause
unset before = if is_some before then Err Repeated else Ok tt

abbrev pub numbered : Result Ratio NumberWord → Result Ratio MarksCause
numbered (Ok value) = Ok value
numbered (Err fault) = Err (Number fault)

-- one mark more
abbrev pub with_mark : Given Ratio → MarkKind → ℕ → Ratio → Given Ratio
with_mark g Twist a value = record g { set_twist = λ b. if a == b then Some value else g.set_twist b }
with_mark g Loop a value = record g { set_loop = λ b. if a == b then Some value else g.set_loop b }

abbrev pub marked : NamedSymbols → MarkKind → ℕ → Ratio → NamedSymbols
marked said kind a value = record said { given = with_mark said.given kind a value }

-- `twist LABEL NUMBER` or `loop LABEL NUMBER`
unfoldable pub mark_line_of : NamedSymbols → List (List ℕ) → Result NamedSymbols MarksCause
mark_line_of said words = do
  kind ← kind_of (word_in words 0)
  _ ← sized words
  a ← label said.names (word_in words 1)
  _ ← unset (marks_of said.given kind a)
  value ← numbered (number_of said.root (word_in words 2))
  Ok (marked said kind a value)

-- The whole text.

-- a line, read over what the lines before it said
abbrev pub marks_with : NamedSymbols → ℕ → List (List ℕ) → Result NamedSymbols Fault
marks_with before number words = on_line number (mark_line_of before words)

-- the same of all lines that are found
abbrev pub marks_on : NamedSymbols → List Found → Result NamedSymbols Fault
marks_on before [] = Ok before
marks_on before (Faulty number cause ∷ more) = Err (record { line = number; cause = Line cause })
marks_on before (Counted number text ∷ more) = marks_with before number (words_of text) >>= λ next. marks_on next more

-- whether a line is `marks 1`
abbrev pub is_header : List (List ℕ) → Bool
is_header words = length words == 2 && (has_word words 0 (codes "marks") && has_word words 1 (codes "1"))

-- what is found behind the header
abbrev pub behind_header : ℕ → List Found → Result (List Found) Fault
behind_header count [] = Err (record { line = count + 1; cause = Header })
behind_header count (Faulty number cause ∷ more) = Err (record { line = number; cause = Line cause })
behind_header count (Counted number text ∷ more) = if is_header (words_of text) then Ok more else Err (record { line = number; cause = Header })

-- the same category in version 2
abbrev pub in_second : NamedSymbols → NamedSymbols
in_second said = record said { given = record said.given { version = 2 } }

-- The category in version 2 with the marks that a text says, or the first fault.
unfoldable pub marks_in : NamedSymbols → List ℕ → Result NamedSymbols Fault
marks_in said bytes = do
  body ← behind_header (reading_of 0 bytes).count (reading_of 0 bytes).ahead
  marks_on (in_second said) body
