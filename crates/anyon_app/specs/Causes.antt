-- The causes of refused lines, as they are written.
use Rattle.std.specs.Prelude.{ℕ, List, [], ◌∷◌, codes, decimal}
use Rattle.line_text.specs.declared.fault.LineCause.{LineCause}
use Rattle.line_text.specs.declared.fault.LineCause.TheVariants.{TooLong, NotAscii}
use Rattle.cyclo_text.specs.declared.fault.NumberWord.{NumberWord}
use Rattle.cyclo_text.specs.declared.fault.NumberWord.TheVariants.{Spelling, TooManyParts, TooBig, ZeroDenominator}
use Rattle.category_text.specs.declared.fault.CategoryCause.{CategoryCause}
use Rattle.category_text.specs.declared.fault.CategoryCause.TheVariants.{Line, Header, Root, Labels, Limit, Repeated, Misplaced, Word, Short, Long, UnknownLabel, UnitFuse, NotAdmissible, Number}
use Rattle.marks_text.specs.declared.fault.MarksCause.{MarksCause}
use Rattle.marks_text.specs.declared.fault.MarksCause.TheVariants as marks
use Rattle.word_moves.specs.declared.fault.MovesCause.{MovesCause}
use Rattle.word_moves.specs.declared.fault.MovesCause.TheVariants as moves
use Rattle.program_text.specs.declared.fault.ProgramCause.{ProgramCause}
use Rattle.program_text.specs.declared.fault.ProgramCause.TheVariants as program

-- why a line of any text is refused, in words
abbrev pub line_cause : LineCause → List ℕ
line_cause TooLong = codes "line too long"
line_cause NotAscii = codes "not ascii"

-- why a number of a text is refused, in words
abbrev pub number_cause : NumberWord → List ℕ
number_cause Spelling = codes "number spelling"
number_cause TooManyParts = codes "number parts"
number_cause TooBig = codes "number too big"
number_cause ZeroDenominator = codes "number zero denominator"

-- why a line of a category is refused, in words
abbrev pub category_cause : CategoryCause → List ℕ
category_cause (Line cause) = line_cause cause
category_cause Header = codes "header"
category_cause Root = codes "root"
category_cause Labels = codes "labels"
category_cause Limit = codes "limit"
category_cause Repeated = codes "repeated"
category_cause Misplaced = codes "misplaced"
category_cause Word = codes "word"
category_cause Short = codes "short"
category_cause Long = codes "long"
category_cause UnknownLabel = codes "unknown label"
category_cause UnitFuse = codes "unit fuse"
category_cause NotAdmissible = codes "not admissible"
category_cause (Number cause) = number_cause cause

-- why a line of marks is refused, in words
abbrev pub marks_cause : MarksCause → List ℕ
marks_cause (marks.Line cause) = line_cause cause
marks_cause marks.Header = codes "header"
marks_cause marks.Word = codes "word"
marks_cause marks.Short = codes "short"
marks_cause marks.Long = codes "long"
marks_cause marks.UnknownLabel = codes "unknown label"
marks_cause marks.Repeated = codes "repeated"
marks_cause (marks.Number cause) = number_cause cause

-- why a line of moves is refused, in words
abbrev pub moves_cause : MovesCause → List ℕ
moves_cause (moves.Line cause) = line_cause cause
moves_cause moves.Header = codes "header"
moves_cause moves.Command = codes "command"
moves_cause moves.Place = codes "place"

-- a cause of a program text: one word, and the gap where a node isn't admissible
abbrev pub program_cause : ProgramCause → List (List ℕ)
program_cause (program.Line cause) = line_cause cause ∷ []
program_cause program.Header = codes "header" ∷ []
program_cause program.Start = codes "start" ∷ []
program_cause program.UnknownLabel = codes "unknown label" ∷ []
program_cause program.Strands = codes "strands" ∷ []
program_cause (program.Inadmissible gap) = codes "inadmissible" ∷ decimal gap ∷ []
program_cause program.Site = codes "site" ∷ []
program_cause program.Command = codes "command" ∷ []
program_cause program.Gap = codes "gap" ∷ []
program_cause program.Name = codes "name" ∷ []
program_cause program.Unnamed = codes "unnamed" ∷ []
program_cause program.Unlike = codes "unlike" ∷ []
program_cause program.Limit = codes "limit" ∷ []
