-- The moves of a text, or its first fault.
use Rattle.std.specs.Prelude.{ℕ, ◌+◌, List, [], ◌∷◌, ◌++◌, Bool, ◌&&◌, ◌==◌, length, codes, if◌then◌else◌, Option, Some, None, Result, Ok, Err, ok_or}
use Rattle.std.specs.Str.{bytes_eq}
use Rattle.line_text.specs.Plain.{plain_number_of}
use Rattle.line_text.specs.Text.{Found, Counted, Faulty, reading_of, words_of, word_in, has_word}
use Rattle.program_text.specs.Steps.{◌>>=◌}
use Rattle.program_text.specs.declared.plan.Sign.{Sign}
use Rattle.program_text.specs.declared.plan.Sign.TheVariants.{Plus, Minus}
use Rattle.word_moves.specs.declared.fault.MovesCause.{MovesCause}
use Rattle.word_moves.specs.declared.fault.MovesCause.TheVariants.{Line, Header, Command, Place}
use Rattle.word_moves.specs.declared.moves.BraidMove.{BraidMove}
use Rattle.word_moves.specs.declared.moves.BraidMove.TheVariants.{Cancel, Insert, Far, Yb}

-- a line that is refused, with its first cause
pub record Fault : Type 0 where
  pub line : ℕ
  pub cause : MovesCause

-- a cause, as the fault of a line
abbrev pub on_line : {A : Type 0} → ℕ → Result A MovesCause → Result A Fault
on_line number (Ok x) = Ok x
on_line number (Err cause) = Err (record { line = number; cause = cause })

-- the number that a word is
abbrev pub number_in : List (List ℕ) → ℕ → Result ℕ MovesCause
number_in words at = ok_or (plain_number_of (word_in words at)) Place

-- the place of a line with one number
abbrev pub place_in : List (List ℕ) → Result ℕ MovesCause
place_in words = if length words == 2 then number_in words 1 else Err Command

abbrev pub sign_of : List ℕ → Option Sign
sign_of text = if bytes_eq text (codes "+") then Some Plus else (if bytes_eq text (codes "-") then Some Minus else None)

-- an insertion of a sign
abbrev pub insertion_of : List (List ℕ) → Option Sign → Result BraidMove MovesCause
insertion_of words None = Err Command
insertion_of words (Some sign) = do
  place ← number_in words 1
  gap ← number_in words 2
  Ok (Insert place gap sign)

abbrev pub insertion_in : List (List ℕ) → Result BraidMove MovesCause
insertion_in words = if length words == 4 then insertion_of words (sign_of (word_in words 3)) else Err Command

-- The move that a line's words say.
abbrev pub move_in : List (List ℕ) → Result BraidMove MovesCause
move_in words =
    if has_word words 0 (codes "cancel") then (place_in words >>= λ place. Ok (Cancel place))
    else (if has_word words 0 (codes "insert") then insertion_in words
    else (if has_word words 0 (codes "far") then (place_in words >>= λ place. Ok (Far place))
    else (if has_word words 0 (codes "yb") then (place_in words >>= λ place. Ok (Yb place)) else Err Command)))

-- moves with that of a line behind them
abbrev pub moves_with : List BraidMove → ℕ → List (List ℕ) → Result (List BraidMove) Fault
moves_with before number words = on_line number (move_in words) >>= λ m. Ok (before ++ m ∷ [])

-- the same with those of all lines that are found
abbrev pub moves_on : List BraidMove → List Found → Result (List BraidMove) Fault
moves_on before [] = Ok before
moves_on before (Faulty number cause ∷ more) = Err (record { line = number; cause = Line cause })
moves_on before (Counted number text ∷ more) = moves_with before number (words_of text) >>= λ next. moves_on next more

-- whether a line is `moves 1`
abbrev pub is_header : List (List ℕ) → Bool
is_header words = length words == 2 && (has_word words 0 (codes "moves") && has_word words 1 (codes "1"))

-- what is found behind the header
abbrev pub behind_header : ℕ → List Found → Result (List Found) Fault
behind_header count [] = Err (record { line = count + 1; cause = Header })
behind_header count (Faulty number cause ∷ more) = Err (record { line = number; cause = Line cause })
behind_header count (Counted number text ∷ more) = if is_header (words_of text) then Ok more else Err (record { line = number; cause = Header })

-- The moves that a text says, or the first fault.
unfoldable pub moves_of : List ℕ → Result (List BraidMove) Fault
moves_of bytes = do
  body ← behind_header (reading_of 0 bytes).count (reading_of 0 bytes).ahead
  moves_on [] body
