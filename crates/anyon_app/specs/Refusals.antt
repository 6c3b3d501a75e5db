-- The lines of refusals and limits. Labels are written by name, other numbers in decimal digits.
use Rattle.std.specs.Prelude.{ℕ, List, [], ◌∷◌, Option, Some, None, codes, decimal, slice_index_or}
use Rattle.fusion_rules.specs.declared.rules.RulesFault.{RulesFault}
use Rattle.fusion_rules.specs.declared.rules.RulesFault.TheVariants.{NotCommutative, NotAssociative, NoSingleDual}
use Rattle.symbol_table.specs.Laws.{form_of}
use Rattle.symbol_table.specs.declared.law.Kind.{Kind}
use Rattle.symbol_table.specs.declared.law.Kind.TheVariants.{Fails, Overflow}
use Rattle.symbol_table.specs.declared.law.Event.{Event}
use Rattle.anyon_app.specs.declared.texts.Kind as text
use Rattle.anyon_app.specs.declared.texts.Kind.TheVariants.{Category, SecondCategory, Program, SecondProgram, Schedule, Moves, Marks}
use Rattle.category_text.specs.declared.fault.CategoryCause.{CategoryCause}
use Rattle.word_runs.specs.declared.fault.RunStop.{RunStop}
use Rattle.outcome_report.specs.Labels.{label_names}
use Rattle.word_runs.specs.declared.fault.RunStop.TheVariants.{Overflow as TurnOverflow, Branches, Wide}
use Rattle.anyon_app.specs.Replies.{Reply}
use Rattle.anyon_app.specs.Lines.{refusal_of, limit_of}
use Rattle.program_text.specs.declared.fault.ProgramCause.{ProgramCause}
use Rattle.site_schedule.specs.declared.fault.ScheduleFault.{ScheduleFault}
use Rattle.site_schedule.specs.declared.fault.ScheduleFault.TheVariants as schedule
use Rattle.word_moves.specs.declared.fault.MovesCause.{MovesCause}
use Rattle.word_moves.specs.declared.moves.Verdict.{Verdict}
use Rattle.word_moves.specs.declared.moves.Verdict.TheVariants as verdict
use Rattle.category_images.specs.declared.place.Place.{Place}
use Rattle.category_images.specs.declared.place.Symbol.{Symbol}
use Rattle.category_images.specs.declared.place.Symbol.TheVariants.{F, R, W, V, H, S, Twist, Loop}
use Rattle.marks_text.specs.declared.fault.MarksCause.{MarksCause}
use Rattle.anyon_app.specs.Causes.{category_cause, line_cause, marks_cause, moves_cause, program_cause}

-- the word for a text of a kind
abbrev pub kind_word : text.Kind → List ℕ
kind_word Category = codes "category"
kind_word SecondCategory = codes "second category"
kind_word Program = codes "program"
kind_word SecondProgram = codes "second program"
kind_word Schedule = codes "schedule"
kind_word Moves = codes "moves"
kind_word Marks = codes "marks"

-- a line of a text that its grammar refuses, with the words of its cause
abbrev pub refused_line : text.Kind → ℕ → List ℕ → Reply
refused_line kind line cause = refusal_of (kind_word kind ∷ codes "line" ∷ decimal line ∷ cause ∷ [])

-- a line of a category text, with its cause
abbrev pub category_line : text.Kind → ℕ → CategoryCause → Reply
category_line kind line cause = refused_line kind line (category_cause cause)

-- a line of a program text, with its cause
abbrev pub program_line : text.Kind → ℕ → ProgramCause → Reply
program_line kind line cause = refusal_of (kind_word kind ∷ codes "line" ∷ decimal line ∷ program_cause cause)

-- a turn of a schedule that can't be taken
abbrev pub turn_line : ℕ → List ℕ → Reply
turn_line turn cause = refusal_of (kind_word Schedule ∷ codes "turn" ∷ decimal turn ∷ cause ∷ [])

-- The first fault of a schedule text of a program with these site names. No text says that memory is wanted.
abbrev pub schedule_line : List (List ℕ) → ScheduleFault → Reply
schedule_line sites (schedule.Line fault) = refused_line Schedule fault.line (line_cause fault.cause)
schedule_line sites (schedule.Header line) = refused_line Schedule line (codes "header")
schedule_line sites (schedule.UnknownSite turn) = turn_line turn (codes "unknown site")
schedule_line sites (schedule.TooMany turn) = turn_line turn (codes "too many")
schedule_line sites (schedule.Early turn) = turn_line turn (codes "early")
schedule_line sites (schedule.Unfinished site) = refusal_of (kind_word Schedule ∷ codes "unfinished" ∷ slice_index_or sites site [] ∷ [])
schedule_line sites schedule.Memory = refusal_of (kind_word Schedule ∷ [])

-- a line of a moves text, with its cause
abbrev pub moves_line : ℕ → MovesCause → Reply
moves_line line cause = refused_line Moves line (moves_cause cause)

-- a line of a marks text, with its cause
abbrev pub marks_line : ℕ → MarksCause → Reply
marks_line line cause = refused_line Marks line (marks_cause cause)

-- a category that has version 2 already
abbrev pub version_line : Reply
version_line = refusal_of (codes "version" ∷ [])

-- a word that is no exponent of the root
abbrev pub exponent_line : Reply
exponent_line = refusal_of (codes "exponent" ∷ [])

-- two categories that have no product: one has version 1, their roots differ, or there are too many pairs of labels
abbrev pub product_version_line : Reply
product_version_line = refusal_of (codes "product" ∷ codes "version" ∷ [])

-- the refusal of a product of categories over these roots, which differ
abbrev pub product_roots_line : ℕ → ℕ → Reply
product_roots_line first second = refusal_of (codes "product" ∷ codes "roots" ∷ decimal first ∷ decimal second ∷ [])

-- the refusal of a product of so many labels
abbrev pub product_labels_line : ℕ → Reply
product_labels_line count = refusal_of (codes "product" ∷ codes "labels" ∷ decimal count ∷ [])

-- the word for a symbol of a new category
abbrev pub symbol_word : Symbol → List ℕ
symbol_word F = codes "f"
symbol_word R = codes "r"
symbol_word W = codes "w"
symbol_word V = codes "v"
symbol_word H = codes "h"
symbol_word S = codes "s"
symbol_word Twist = codes "twist"
symbol_word Loop = codes "loop"

-- a symbol of a new category that doesn't fit, after the word of the command that makes it
abbrev pub place_line : List ℕ → List (List ℕ) → Place → Reply
place_line command names place = limit_of (codes "overflow" ∷ command ∷ symbol_word place.symbol ∷ label_names names place.index)

-- what isn't linked, with a number
abbrev pub not_linked : List ℕ → ℕ → Reply
not_linked what number = refusal_of (codes "not linked" ∷ what ∷ decimal number ∷ [])

-- programs that moves don't link
abbrev pub verdict_line : Verdict → Option Reply
verdict_line verdict.Linked = None
verdict_line verdict.StartDiffers = Some (refusal_of (codes "not linked" ∷ codes "start" ∷ []))
verdict_line (verdict.NoMove number) = Some (not_linked (codes "move") number)
verdict_line (verdict.EndDiffers place) = Some (not_linked (codes "end") place)

-- a start that isn't left-combed, where the program is to run on left-combed paths
abbrev pub comb_start_line : Reply
comb_start_line = refusal_of (codes "comb" ∷ codes "start" ∷ [])

-- a number that isn't from 2 to 12
abbrev pub number_line : Reply
number_line = refusal_of (codes "number" ∷ [])

-- fusion rules that aren't those of a fusion category
abbrev pub rules_line : List (List ℕ) → RulesFault → Reply
rules_line names (NotCommutative a b c) = refusal_of (codes "commutative" ∷ label_names names (a ∷ b ∷ c ∷ []))
rules_line names (NotAssociative a b c d) = refusal_of (codes "associative" ∷ label_names names (a ∷ b ∷ c ∷ d ∷ []))
rules_line names (NoSingleDual a) = refusal_of (codes "dual" ∷ label_names names (a ∷ []))

-- an event of a law: its name, and its index
abbrev pub event_words : List (List ℕ) → Event → List (List ℕ)
event_words names event = (form_of event.law).name ∷ label_names names event.index

-- the line of the first event: a refusal where its equation fails, a limit where an item of it is too large
abbrev pub event_reply : Kind → List (List ℕ) → Reply
event_reply Fails words = refusal_of words
event_reply Overflow words = limit_of (codes "overflow" ∷ words)

-- a law that isn't met, or an item of one that doesn't fit
abbrev pub event_line : List (List ℕ) → Event → Reply
event_line names event = event_reply event.kind (event_words names event)

-- a text with more bytes than the limit
abbrev pub too_long : text.Kind → Reply
too_long kind = refusal_of (kind_word kind ∷ codes "too long" ∷ [])

-- where the stated evaluation of a run stops: an item of a turn that doesn't fit, more live words or more amplitudes over
-- all of them than the limits allow
abbrev pub stop_line : RunStop → Reply
stop_line (TurnOverflow turn) = limit_of (codes "overflow" ∷ codes "turn" ∷ decimal turn ∷ [])
stop_line (Branches turn count) = limit_of (codes "branches" ∷ codes "turn" ∷ decimal turn ∷ codes "count" ∷ decimal count ∷ [])
stop_line (Wide turn entries) = limit_of (codes "wide" ∷ codes "turn" ∷ decimal turn ∷ codes "entries" ∷ decimal entries ∷ [])
