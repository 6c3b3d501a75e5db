-- The program of a text of version 1 or 2, or its first fault.
use Rattle.std.specs.Prelude.{ℕ, ◌+◌, ◌-◌, List, [], ◌∷◌, ◌++◌, Bool, true, false, not, ◌&&◌, ◌||◌, ◌==◌, nat_lt, nat_le, length, drop, slice_index, codes, if◌then◌else◌, Option, Some, None, Result, Ok, Err}
use Rattle.std.specs.List.{flat_map, swap}
use Rattle.std.specs.Str.{bytes_eq}
use Rattle.line_text.specs.Text.{Found, Counted, Faulty, Reading, reading_of, words_of, word_in, has_word}
use Rattle.line_text.specs.Plain.{plain_number_of}
use Rattle.fusion_rules.specs.Names.{is_name, label_of}
use Rattle.tree_shapes.specs.Labelled.{Labelled, leaves, size}
use Rattle.tree_shapes.specs.declared.limits.TheConstants.{STRAND_LIMIT}
use Rattle.program_text.specs.declared.form.TheConstants.{COMMAND_LIMIT}
use Rattle.program_text.specs.declared.fault.ProgramCause.{ProgramCause}
use Rattle.program_text.specs.declared.fault.ProgramCause.TheVariants as cause
use Rattle.program_text.specs.declared.plan.Sign.{Sign}
use Rattle.program_text.specs.declared.plan.Sign.TheVariants.{Plus, Minus}
use Rattle.program_text.specs.declared.plan.Command.{Command}
use Rattle.program_text.specs.declared.plan.Command.TheVariants.{Braid, Raise, Measure, BraidWhen}
use Rattle.program_text.specs.declared.line_form.LineForm.{LineForm}
use Rattle.program_text.specs.declared.line_form.LineForm.TheVariants as form
use Rattle.program_text.specs.Program.{Program, ProgramOutcome, ProgramSite}
use Rattle.program_text.specs.Form.{labels_below}
use Rattle.program_text.specs.Letters.{outcomes_of}
use Rattle.program_text.specs.Gaps.{bad_gap}
use Rattle.program_text.specs.Steps.{Fault, ◌>>=◌, on_line, unless}
use Rattle.program_text.specs.Trees.{runs_of, pieces_onto, tree_of}

-- The first two lines.

abbrev pub versioned : List ℕ → Result ℕ ProgramCause
versioned text = if bytes_eq text (codes "1") then Ok 1 else (if bytes_eq text (codes "2") then Ok 2 else Err cause.Header)

-- the version of the words `program 1` or `program 2`
abbrev pub version_of : List (List ℕ) → Result ℕ ProgramCause
version_of words = do
  _ ← unless ((length words == 2) && has_word words 0 (codes "program")) cause.Header
  versioned (word_in words 1)

-- the tree behind the first word, where pieces may stand apart and two labels do
abbrev pub tree_in : List (List ℕ) → List (List ℕ) → Result Labelled ProgramCause
tree_in names words = do
  pieces ← pieces_onto names [] (flat_map runs_of (drop 1 words))
  tree_of pieces

abbrev pub admitted : Labelled → Option ℕ → Result Labelled ProgramCause
admitted tree None = Ok tree
admitted tree (Some gap) = Err (cause.Inadmissible gap)

-- `start` and a tree: its labels are named, it has 2 to STRAND_LIMIT strands, and every node is admissible
unfoldable pub start_of : List (List ℕ) → (ℕ → ℕ → ℕ → Bool) → List (List ℕ) → Result Labelled ProgramCause
start_of names fuse words = do
  _ ← unless (has_word words 0 (codes "start")) cause.Start
  tree ← tree_in names words
  _ ← unless (labels_below (length names) tree) cause.UnknownLabel
  _ ← unless (nat_le 2 (size tree) && nat_le (size tree) STRAND_LIMIT) cause.Strands
  admitted tree (bad_gap fuse tree 0)

-- A line behind them.

-- What the lines so far said: the sites before the current one, the current one, whether a site line was read, and the
-- named outcomes; the strands as the braids so far leave them; and how many commands and measurements there are.
pub record SoFar : Type 0 where
  pub earlier : List ProgramSite
  pub current : ProgramSite
  pub has_site : Bool
  pub outcomes : List ProgramOutcome
  pub strands : List ℕ
  pub commands : ℕ
  pub measured : ℕ

abbrev pub or_else : Option ℕ → ProgramCause → Result ℕ ProgramCause
or_else (Some number) missing = Ok number
or_else None missing = Err missing

-- Site lines.

-- the sites whose line was read: the current one is one of them where a site line was read
abbrev pub given_by : Bool → List ProgramSite → ProgramSite → List ProgramSite
given_by has_site earlier current = if has_site then earlier ++ current ∷ [] else earlier

abbrev pub sites_given : SoFar → List ProgramSite
sites_given before = given_by before.has_site before.earlier before.current

-- a site has neither the name nor a strand from first to last
abbrev pub is_apart : List ℕ → ℕ → ℕ → ProgramSite → Bool
is_apart name first last site = not (bytes_eq site.name name) && (nat_lt last site.first || nat_lt site.last first)

abbrev pub all_apart : List ℕ → ℕ → ℕ → List ProgramSite → Bool
all_apart name first last [] = true
all_apart name first last (site ∷ sites) = is_apart name first last site && all_apart name first last sites

abbrev pub empty_site : List ℕ → ℕ → ℕ → ProgramSite
empty_site name first last = record { name = name; first = first; last = last; commands = [] }

abbrev pub with_site : SoFar → ProgramSite → SoFar
with_site before site = record before { earlier = sites_given before; current = site; has_site = true }

-- strands, from the first to the last, of so many
abbrev pub are_among : ℕ → ℕ → ℕ → Bool
are_among first last strands = nat_le 1 first && (nat_le first last && nat_le last strands)

-- no command stands before the first site line
abbrev pub may_begin : SoFar → Bool
may_begin before = before.has_site || before.commands == 0

-- `site NAME FIRST LAST`
unfoldable pub site_of_line : SoFar → List (List ℕ) → Result SoFar ProgramCause
site_of_line before words = do
  _ ← unless (length words == 4) cause.Site
  _ ← unless (is_name (word_in words 1)) cause.Site
  first ← or_else (plain_number_of (word_in words 2)) cause.Site
  last ← or_else (plain_number_of (word_in words 3)) cause.Site
  _ ← unless (are_among first last (length before.strands)) cause.Site
  _ ← unless (all_apart (word_in words 1) first last (sites_given before)) cause.Site
  _ ← unless (may_begin before) cause.Site
  Ok (with_site before (empty_site (word_in words 1) first last))

-- Command lines.

abbrev pub sign_in : List ℕ → Result Sign ProgramCause
sign_in text = if bytes_eq text (codes "+") then Ok Plus else (if bytes_eq text (codes "-") then Ok Minus else Err cause.Command)

-- names and tests came with version 2
abbrev pub has_names : ℕ → Bool
has_names version = nat_le 2 version

-- `braid K S`, or `braid K S when NAME LABEL`
abbrev pub braid_form : ℕ → List (List ℕ) → Sign → Result LineForm ProgramCause
braid_form version words sign =
    if length words == 3 then Ok (form.Braid sign)
    else (if has_names version && (length words == 6 && has_word words 3 (codes "when")) then Ok (form.BraidWhen sign) else Err cause.Command)

-- `measure K`, or `measure K as NAME`
abbrev pub measure_form : ℕ → List (List ℕ) → Result LineForm ProgramCause
measure_form version words =
    if length words == 2 then Ok form.Measure
    else (if has_names version && (length words == 4 && has_word words 2 (codes "as")) then Ok form.MeasureAs else Err cause.Command)

-- `raise K`
abbrev pub raise_form : List (List ℕ) → Result LineForm ProgramCause
raise_form words = if length words == 2 then Ok form.Raise else Err cause.Command

-- the form of a command line, by its words without its gap and its names
abbrev pub form_of : ℕ → List (List ℕ) → Result LineForm ProgramCause
form_of version words =
    if has_word words 0 (codes "braid") then sign_in (word_in words 2) >>= braid_form version words
    else (if has_word words 0 (codes "raise") then raise_form words
    else (if has_word words 0 (codes "measure") then measure_form version words else Err cause.Command))

abbrev pub is_inside : ProgramSite → ℕ → Bool
is_inside site gap = nat_le site.first gap && nat_lt gap site.last

-- the place of the measurement that a name was given to
abbrev pub place_of : List ProgramOutcome → List ℕ → Option ℕ
place_of [] name = None
place_of (outcome ∷ outcomes) name = if bytes_eq outcome.name name then Some outcome.place else place_of outcomes name

abbrev pub is_given : List ProgramOutcome → List ℕ → Bool
is_given [] name = false
is_given (outcome ∷ outcomes) name = bytes_eq outcome.name name || is_given outcomes name

-- whether the strands at a gap have one label
abbrev pub are_alike : List ℕ → ℕ → Bool
are_alike strands gap = slice_index strands (gap - 1) == slice_index strands gap

-- the command of a line of this form at a gap of the current site
abbrev pub command_by : List (List ℕ) → SoFar → List (List ℕ) → ℕ → LineForm → Result Command ProgramCause
command_by names before words gap (form.Braid sign) = Ok (Braid gap sign)
command_by names before words gap form.Raise = Ok (Raise gap)
command_by names before words gap form.Measure = Ok (Measure gap)
command_by names before words gap form.MeasureAs = do
  _ ← unless (is_name (word_in words 3) && not (is_given before.outcomes (word_in words 3))) cause.Name
  Ok (Measure gap)
command_by names before words gap (form.BraidWhen sign) = do
  place ← or_else (place_of before.outcomes (word_in words 4)) cause.Unnamed
  label ← or_else (label_of names (word_in words 5)) cause.UnknownLabel
  _ ← unless (are_alike before.strands gap) cause.Unlike
  Ok (BraidWhen gap sign place label)

-- the named outcomes with that of a line of this form, before which there are so many measurements
abbrev pub outcomes_by : List ProgramOutcome → ℕ → List (List ℕ) → LineForm → List ProgramOutcome
outcomes_by outcomes measured words (form.Braid sign) = outcomes
outcomes_by outcomes measured words form.Raise = outcomes
outcomes_by outcomes measured words form.Measure = outcomes
outcomes_by outcomes measured words form.MeasureAs = outcomes ++ record { name = word_in words 3; place = measured } ∷ []
outcomes_by outcomes measured words (form.BraidWhen sign) = outcomes

abbrev pub outcomes_with : SoFar → List (List ℕ) → LineForm → List ProgramOutcome
outcomes_with before words kind = outcomes_by before.outcomes before.measured words kind

-- the strands that a command leaves; those that a test exchanges are alike
abbrev pub strands_behind : List ℕ → Command → List ℕ
strands_behind strands (Braid gap sign) = swap strands (gap - 1) gap
strands_behind strands (Raise gap) = strands
strands_behind strands (Measure gap) = strands
strands_behind strands (BraidWhen gap sign place label) = strands

abbrev pub with_command : SoFar → Command → List ProgramOutcome → SoFar
with_command before command outcomes = record before {
  current = record before.current { commands = before.current.commands ++ command ∷ [] };
  outcomes = outcomes;
  strands = strands_behind before.strands command;
  commands = before.commands + 1;
  measured = before.measured + outcomes_of command;
}

-- a command line
unfoldable pub command_of_line : List (List ℕ) → ℕ → SoFar → List (List ℕ) → Result SoFar ProgramCause
command_of_line names version before words = do
  kind ← form_of version words
  gap ← or_else (plain_number_of (word_in words 1)) cause.Command
  _ ← unless (is_inside before.current gap) cause.Gap
  command ← command_by names before words gap kind
  _ ← unless (nat_lt before.commands COMMAND_LIMIT) cause.Limit
  Ok (with_command before command (outcomes_with before words kind))

-- one line behind the start
abbrev pub line_of : List (List ℕ) → ℕ → SoFar → List (List ℕ) → Result SoFar ProgramCause
line_of names version before words =
    if has_word words 0 (codes "site") then site_of_line before words else command_of_line names version before words

-- The whole text.

-- a line that has to come: its number, its words, and what is found behind it
abbrev pub required : ProgramCause → ℕ → List Found → Result (ℕ × (List (List ℕ) × List Found)) Fault
required missing count [] = Err (record { line = count + 1; cause = missing })
required missing count (Faulty number why ∷ more) = Err (record { line = number; cause = cause.Line why })
required missing count (Counted number text ∷ more) = Ok (number, (words_of text, more))

-- the version, the start, and what is found behind them
unfoldable pub head_of : List (List ℕ) → (ℕ → ℕ → ℕ → Bool) → Reading → Result ((ℕ × Labelled) × List Found) Fault
head_of names fuse text = do
  first ← required cause.Header text.count text.ahead
  version ← on_line first.0 (version_of first.1.0)
  second ← required cause.Start text.count first.1.1
  start ← on_line second.0 (start_of names fuse second.1.0)
  Ok ((version, start), second.1.1)

-- line after line, each read over what those before it said
abbrev pub body_of : List (List ℕ) → ℕ → SoFar → List Found → Result SoFar Fault
body_of names version before [] = Ok before
body_of names version before (Faulty number why ∷ more) = Err (record { line = number; cause = cause.Line why })
body_of names version before (Counted number text ∷ more) = on_line number (line_of names version before (words_of text)) >>= λ next. body_of names version next more

-- no line: the site `main` with all strands
abbrev pub begun : Labelled → SoFar
begun start = record {
  earlier = [];
  current = empty_site (codes "main") 1 (size start);
  has_site = false;
  outcomes = [];
  strands = leaves start;
  commands = 0;
  measured = 0;
}

abbrev pub program_said : ℕ → Labelled → SoFar → Program
program_said version start whole = record { version = version; start = start; sites = whole.earlier ++ whole.current ∷ []; outcomes = whole.outcomes }

-- The program that a text is, over a category with these names and triples.
unfoldable pub program_in : List (List ℕ) → (ℕ → ℕ → ℕ → Bool) → List ℕ → Result Program Fault
program_in names fuse bytes = do
  head ← head_of names fuse (reading_of 0 bytes)
  whole ← body_of names head.0.0 (begun head.0.1) head.1
  Ok (program_said head.0.0 head.0.1 whole)
