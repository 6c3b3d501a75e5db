-- The command `make N`: its number, the texts that are made of it, how they are read, and its summary.
use Rattle.std.specs.Prelude.{ℕ, ◌&&◌, List, length, nat_lt, if◌then◌else◌, Option, Some, None, Result, Ok, Err}
use Rattle.line_text.specs.Plain.{plain_number_of}
use Rattle.category_text.specs.Canonical.{canonical}
use Rattle.category_text.specs.Named.{NamedSymbols}
use Rattle.program_text.specs.Letters.{measurements}
use Rattle.program_text.specs.Program.{Program}
use Rattle.program_text.specs.Steps.{◌>>=◌}
use Rattle.program_text.specs.WellFormed.{commands_in}
use Rattle.program_text.specs.Written.{written}
use Rattle.category_maker.specs.MadeCategory.{label_names, made_category}
use Rattle.category_maker.specs.MadeProgram.{made_program}
use Rattle.category_maker.specs.MadeSchedule.{made_schedule}
use Rattle.outcome_report.specs.Summary.{summary_of}
use Rattle.anyon_app.specs.declared.texts.Kind as text
use Rattle.anyon_app.specs.declared.texts.Kind.TheVariants.{Category, Program as ProgramText, Schedule}
use Rattle.anyon_app.specs.Replies.{Reply, done}
use Rattle.anyon_app.specs.Refusals.{number_line, too_long}
use Rattle.anyon_app.specs.Work.{Work, Says, judged, text_limit}
use Rattle.anyon_app.specs.Categories.{named_of}
use Rattle.anyon_app.specs.Programs.{outcomes_by, program_of_text, turns_of_text}
use Rattle.anyon_app.specs.Verdicts.{category_verdict, unless}

-- a number from 2 to 12, or the refusal of any other word
abbrev pub from_two : Option ℕ → Result ℕ Reply
from_two None = Err number_line
from_two (Some n) = if nat_lt 1 n && nat_lt n 13 then Ok n else Err number_line

-- the number of a word, from 2 to 12
abbrev pub number_of : List ℕ → Result ℕ Reply
number_of word = from_two (plain_number_of word)

-- a text that is too long
abbrev pub size_verdict : text.Kind → List ℕ → Option Reply
size_verdict kind text = if nat_lt text_limit (length text) then Some (too_long kind) else None

-- a text in hand, read as one of a shelf is
abbrev pub in_hand : {T : Type 0} → text.Kind → (List ℕ → Result T Reply) → List ℕ → Result T Reply
in_hand kind reader text = do
  _ ← unless (size_verdict kind text)
  reader text

-- the category of the text of n, and what decides about it
unfoldable pub category_made : ℕ → Result NamedSymbols Reply
category_made n = do
  named ← in_hand Category named_of (canonical (made_category n))
  _ ← unless (category_verdict named)
  Ok named

-- the program of the text of n over this category
unfoldable pub program_made : ℕ → NamedSymbols → Result Program Reply
program_made n named = in_hand ProgramText (program_of_text ProgramText named) (written (label_names n) (made_program n))

-- the turns of the schedule text for this program
unfoldable pub turns_made : Program → Result (List ℕ) Reply
turns_made plan = in_hand Schedule (turns_of_text plan) made_schedule

-- the summary of the outcomes
abbrev pub summary_made : ℕ → NamedSymbols → Program → List ℕ → Result (List ℕ) Reply
summary_made n named plan turns = do
  outcomes ← outcomes_by named plan turns
  Ok (summary_of n (length (commands_in plan.sites)) (measurements (commands_in plan.sites)) outcomes)

-- The category of the text of n and what decides about it; the program, the schedule, and the summary of the rows.
unfoldable pub report_made : ℕ → Result (List ℕ) Reply
report_made n = do
  named ← category_made n
  plan ← program_made n named
  turns ← turns_made plan
  summary_made n named plan turns

-- the number of a word, and the report of what is made of it
unfoldable pub made_of : List ℕ → Result (List ℕ) Reply
made_of word = number_of word >>= report_made

-- no text of the shelf is wanted
unfoldable pub make_work : List ℕ → Work
make_work word = judged (made_of word) (λ report. Says (done report))
