-- What replies say of categories and of runs, over the bytes of their texts.
use Rattle.std.specs.Prelude.{◌≡◌, ◌≤◌, ℕ, List, length, Some, Ok}
use Rattle.io_ports.specs.Ports.{Files}
use Rattle.line_text.specs.Plain.{plain_number_of}
use Rattle.symbol_table.specs.Laws.{IsLawful}
use Rattle.law_events.specs.Verdicts.{EveryItemFits}
use Rattle.category_text.specs.Named.{NamedSymbols}
use Rattle.category_text.specs.Reading.{category_of}
use Rattle.category_text.specs.Again.{SameSymbols}
use Rattle.program_text.specs.Grammar.{program_in}
use Rattle.program_text.specs.Letters.{measurements}
use Rattle.program_text.specs.Program.{Program}
use Rattle.program_text.specs.WellFormed.{commands_in}
use Rattle.comb_laws.specs.Plans.{outcomes_of}
use Rattle.category_maker.specs.MadeCategory.{made_category}
use Rattle.category_maker.specs.MadeProgram.{made_program}
use Rattle.outcome_report.specs.Report.{report_of}
use Rattle.outcome_report.specs.Summary.{summary_of}
use Rattle.anyon_app.specs.Replies.{done}
use Rattle.anyon_app.specs.Work.{Work, reply_of, text_limit}
use Rattle.anyon_app.specs.Verdicts.{symbols_in}
use Rattle.anyon_app.specs.Check.{accepted, check_work}
use Rattle.anyon_app.specs.Format.{format_work}
use Rattle.anyon_app.specs.Linked.{linked_work}
use Rattle.anyon_app.specs.Make.{make_work}

-- The text of a name is there, is not too long, and is read as this category.
pub record IsCategoryText (files : Files) (name : List ℕ) (named : NamedSymbols) : Type 0 where
  pub text : List ℕ
  pub there : files name ≡ Some text
  pub short : length text ≤ text_limit
  pub reads : category_of text ≡ Ok named

-- the category of the text is lawful
pub record HasLawfulText (files : Files) (name : List ℕ) : Type 0 where
  pub named : NamedSymbols
  pub is : IsCategoryText files name named
  pub lawful : IsLawful (symbols_in named)

-- what `check` accepts is read as a category all of whose equations are true
abbrev pub AcceptedIsLawful : Type 0
AcceptedIsLawful =
    (files : Files) (name report : List ℕ) → reply_of (check_work name) files ≡ Some (done report) → HasLawfulText files name

-- a category all of whose equations are true and all of whose items fit is accepted
abbrev pub LawfulIsAccepted : Type 0
LawfulIsAccepted =
    (files : Files) (name : List ℕ) (named : NamedSymbols) → IsCategoryText files name named → IsLawful (symbols_in named)
    → EveryItemFits (symbols_in named) → reply_of (check_work name) files ≡ Some (done (accepted named))

-- whatever the command finishes, the category is lawful
abbrev pub FinishedIsLawful : (List ℕ → List ℕ → Work) → Type 0
FinishedIsLawful work =
    (files : Files) (category program report : List ℕ) → reply_of (work category program) files ≡ Some (done report)
    → HasLawfulText files category

-- The text of a name is there, is not too long, and is read as this program over the category.
pub record IsProgramText (files : Files) (name : List ℕ) (named : NamedSymbols) (plan : Program) : Type 0 where
  pub text : List ℕ
  pub there : files name ≡ Some text
  pub short : length text ≤ text_limit
  pub reads : program_in named.names named.given.fuse text ≡ Ok plan

-- A report of the rows: those of the program of one text over the category of the other, by the comb operators in the order
-- of the text.
pub record HasRows (files : Files) (category program report : List ℕ) : Type 0 where
  pub named : NamedSymbols
  pub plan : Program
  pub category_is : IsCategoryText files category named
  pub program_is : IsProgramText files program named plan
  pub report_is : report ≡ report_of named.names (outcomes_of (symbols_in named) plan.start (commands_in plan.sites))

-- whatever the command finishes, it writes these rows
abbrev pub ReportsRows : (List ℕ → List ℕ → Work) → Type 0
ReportsRows work =
    (files : Files) (category program report : List ℕ) → reply_of (work category program) files ≡ Some (done report)
    → HasRows files category program report

-- what both commands finish, over the same texts, they write alike
abbrev pub ReportAlike : (List ℕ → List ℕ → Work) → (List ℕ → List ℕ → Work) → Type 0
ReportAlike first second =
    (files : Files) (category program one other : List ℕ) → reply_of (first category program) files ≡ Some (done one)
    → reply_of (second category program) files ≡ Some (done other) → one ≡ other

-- what `format` wrote is formatted to itself, as far as it isn't too long to be read
abbrev pub FormatSettles : Type 0
FormatSettles =
    (files later : Files) (name other report : List ℕ) → reply_of (format_work name) files ≡ Some (done report)
    → later other ≡ Some report → length report ≤ text_limit → reply_of (format_work other) later ≡ Some (done report)

-- two texts that say the same category, under two names
pub record SayTheSame (files later : Files) (name other : List ℕ) : Type 0 where
  pub first : NamedSymbols
  pub second : NamedSymbols
  pub first_is : IsCategoryText files name first
  pub second_is : IsCategoryText later other second
  pub same : SameSymbols first second

-- texts that are formatted alike say the same category
abbrev pub FormattedAlike : Type 0
FormattedAlike =
    (files later : Files) (name other report : List ℕ) → reply_of (format_work name) files ≡ Some (done report)
    → reply_of (format_work other) later ≡ Some (done report) → SayTheSame files later name other

-- Two programs over one category, with the same total and the same rows.
pub record HaveEqualRows (files : Files) (first second : List ℕ) (named : NamedSymbols) : Type 0 where
  pub p : Program
  pub q : Program
  pub first_is : IsProgramText files first named p
  pub second_is : IsProgramText files second named q
  pub equal : outcomes_of (symbols_in named) p.start (commands_in p.sites) ≡ outcomes_of (symbols_in named) q.start (commands_in q.sites)

-- the programs that `linked` finishes have equal rows
abbrev pub LinkedHaveRows : NamedSymbols → Type 0
LinkedHaveRows named =
    (files : Files) (category first second moves report : List ℕ) → IsCategoryText files category named
    → reply_of (linked_work category first second moves) files ≡ Some (done report) → HaveEqualRows files first second named

-- A summary of the rows of the program that is made from a number, over a category with the symbols that are made from it.
pub record HasMadeRows (word report : List ℕ) : Type 0 where
  pub number : ℕ
  pub word_is : plain_number_of word ≡ Some number
  pub some : 2 ≤ number
  pub few : number ≤ 12
  pub named : NamedSymbols
  pub same : SameSymbols (made_category number) named
  pub lawful : IsLawful (symbols_in named)
  pub report_is : report ≡ summary_of number (length (commands_in (made_program number).sites)) (measurements (commands_in (made_program number).sites))
      (outcomes_of (symbols_in named) (made_program number).start (commands_in (made_program number).sites))

-- whatever `make` finishes, it reports this summary
abbrev pub MakesRows : Type 0
MakesRows = (files : Files) (word report : List ℕ) → reply_of (make_work word) files ≡ Some (done report) → HasMadeRows word report
