-- The command `linked CAT PROG PROG MOVES`: what it reads, in which order it refuses, and its report.
use Rattle.std.specs.Prelude.{ℕ, List, [], ◌∷◌, codes, Result, Ok, Err}
use Rattle.program_text.specs.Program.{Program}
use Rattle.word_moves.specs.Reading.{Fault, moves_of}
use Rattle.word_moves.specs.Verdicts.{verdict_of}
use Rattle.word_moves.specs.declared.moves.BraidMove.{BraidMove}
use Rattle.anyon_app.specs.declared.texts.Kind.TheVariants.{Program as ProgramText, SecondProgram, Moves}
use Rattle.anyon_app.specs.Replies.{Reply, done}
use Rattle.anyon_app.specs.Lines.{line_of}
use Rattle.anyon_app.specs.Refusals.{moves_line, too_long, verdict_line}
use Rattle.anyon_app.specs.Work.{Work, Says, judged, read_work}
use Rattle.anyon_app.specs.Programs.{admitted_work, program_work}
use Rattle.anyon_app.specs.Verdicts.{unless}

-- the moves of a text, or the reply at its first fault
abbrev pub moves_or : Result (List BraidMove) Fault → Result (List BraidMove) Reply
moves_or (Ok moves) = Ok moves
moves_or (Err fault) = Err (moves_line fault.line fault.cause)

-- the moves that a text says, or the reply at its first fault
abbrev pub moves_of_text : List ℕ → Result (List BraidMove) Reply
moves_of_text text = moves_or (moves_of text)

-- the moves of a text
abbrev pub moves_work : List ℕ → (List BraidMove → Work) → Work
moves_work moves next = read_work (too_long Moves) moves_of_text moves next

-- the one line of programs that moves link
abbrev pub linked_report : List ℕ
linked_report = line_of (codes "linked" ∷ [])

-- the verdict on two programs and moves
abbrev pub judged_moves : Program → Program → List BraidMove → Work
judged_moves p q moves = judged (unless (verdict_line (verdict_of p q moves))) (λ _. Says (done linked_report))

-- The category of the first text; what decides about it; both programs over it; the moves, and whether they link the programs.
unfoldable pub linked_work : (category first second moves : List ℕ) → Work
linked_work category first second moves =
    admitted_work category (λ named. program_work ProgramText first named (λ p. program_work SecondProgram second named (λ q. moves_work moves (judged_moves p q))))
