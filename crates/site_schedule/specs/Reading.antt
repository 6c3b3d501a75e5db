-- The schedule of a text, or its first fault.
use Rattle.std.specs.Prelude.{ℕ, ◌+◌, List, [], ◌∷◌, ◌++◌, Bool, ◌&&◌, ◌==◌, length, map, codes, if◌then◌else◌, Option, Some, None, Result, Ok, Err}
use Rattle.std.specs.Str.{bytes_eq}
use Rattle.line_text.specs.Text.{Found, Counted, Faulty, reading_of, words_of, has_word}
use Rattle.line_text.specs.declared.fault.LineFault.{LineFault}
use Rattle.program_text.specs.Program.{Program, ProgramSite}
use Rattle.program_text.specs.Steps.{◌>>=◌}
use Rattle.program_text.specs.declared.letter.Letter.{Letter}
use Rattle.run_laws.specs.Timely.{is_timely, known_after}
use Rattle.run_laws.specs.Turns.{next_of, turns}
use Rattle.site_schedule.specs.declared.fault.ScheduleFault.{ScheduleFault}
use Rattle.site_schedule.specs.declared.fault.ScheduleFault.TheVariants as fault
use Rattle.site_schedule.specs.Legal.{letters_in}
use Rattle.site_schedule.specs.Queues.{first_left, left_behind}

-- What the lines behind the first say: their words one after another, up to a line that can't be read.
pub data Said : Type 0 where
  Word : (text : List ℕ) → Said
  Broken : (why : LineFault) → Said

abbrev pub said_in : List Found → List Said
said_in [] = []
said_in (Faulty number cause ∷ more) = Broken (record { line = number; cause = cause }) ∷ []
said_in (Counted number text ∷ more) = map Word (words_of text) ++ said_in more

-- the number of the first site with this name, where so many sites stand before
abbrev pub site_from : ℕ → List ProgramSite → List ℕ → Option ℕ
site_from number [] name = None
site_from number (site ∷ sites) name = if bytes_eq site.name name then Some number else site_from (number + 1) sites name

-- the places that are measured in turns
abbrev pub known_behind : List (List Letter) → List ℕ → List ℕ
known_behind sites before = known_after [] (turns sites before)

-- whether the outcome that a letter tests is one of these, if it tests one
abbrev pub may_follow : List ℕ → Letter → Bool
may_follow known letter = is_timely known (letter ∷ [])

-- The turn behind these turns, by the next letter of its site.
abbrev pub turn_with : List (List Letter) → List ℕ → ℕ → Option Letter → Result ℕ ScheduleFault
turn_with sites before site None = Err (fault.TooMany (length before + 1))
turn_with sites before site (Some letter) = if may_follow (known_behind sites before) letter then Ok site else Err (fault.Early (length before + 1))

-- The same by its site.
abbrev pub turn_of : List (List Letter) → List ℕ → Option ℕ → Result ℕ ScheduleFault
turn_of sites before None = Err (fault.UnknownSite (length before + 1))
turn_of sites before (Some site) = turn_with sites before site (next_of site (left_behind sites before))

-- The same by its site's name.
abbrev pub turn_named : Program → List ℕ → List ℕ → Result ℕ ScheduleFault
turn_named p before name = turn_of (letters_in p) before (site_from 0 p.sites name)

-- turns with that of a name behind them
abbrev pub turn_on : Program → List ℕ → List ℕ → Result (List ℕ) ScheduleFault
turn_on p before name = turn_named p before name >>= λ site. Ok (before ++ site ∷ [])

-- the same with those of all names that are said
abbrev pub turns_on : Program → List ℕ → List Said → Result (List ℕ) ScheduleFault
turns_on p before [] = Ok before
turns_on p before (Broken why ∷ more) = Err (fault.Line why)
turns_on p before (Word name ∷ more) = turn_on p before name >>= λ next. turns_on p next more

-- turns are a schedule where no site has a command left
abbrev pub whole_by : List ℕ → Option ℕ → Result (List ℕ) ScheduleFault
whole_by schedule None = Ok schedule
whole_by schedule (Some site) = Err (fault.Unfinished site)

abbrev pub whole : Program → List ℕ → Result (List ℕ) ScheduleFault
whole p schedule = whole_by schedule (first_left 0 (left_behind (letters_in p) schedule))

-- whether a line is `schedule 1`
abbrev pub is_header : List (List ℕ) → Bool
is_header words = length words == 2 && (has_word words 0 (codes "schedule") && has_word words 1 (codes "1"))

-- what is found behind the header
abbrev pub behind_header : ℕ → List Found → Result (List Found) ScheduleFault
behind_header count [] = Err (fault.Header (count + 1))
behind_header count (Faulty number cause ∷ more) = Err (fault.Line (record { line = number; cause = cause }))
behind_header count (Counted number text ∷ more) = if is_header (words_of text) then Ok more else Err (fault.Header number)

-- The turns that a text says for a program, or the first fault.
unfoldable pub schedule_of : Program → List ℕ → Result (List ℕ) ScheduleFault
schedule_of p bytes = do
  body ← behind_header (reading_of 0 bytes).count (reading_of 0 bytes).ahead
  schedule ← turns_on p [] (said_in body)
  whole p schedule
