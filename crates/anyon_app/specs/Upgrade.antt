-- The command `upgrade CAT MARKS`: what it reads, in which order it refuses, and its report.
use Rattle.std.specs.Prelude.{ℕ, List, ◌==◌, if◌then◌else◌, Option, Some, None, Result, Ok, Err}
use Rattle.category_text.specs.Canonical.{canonical}
use Rattle.category_text.specs.Named.{NamedSymbols}
use Rattle.marks_text.specs.Reading.{Fault, marks_in}
use Rattle.program_text.specs.Steps.{◌>>=◌}
use Rattle.anyon_app.specs.declared.texts.Kind.TheVariants.{Category, Marks}
use Rattle.anyon_app.specs.Replies.{Reply, done}
use Rattle.anyon_app.specs.Refusals.{marks_line, too_long, version_line}
use Rattle.anyon_app.specs.Work.{Work, Says, judged, read_work}
use Rattle.anyon_app.specs.Categories.{named_of}
use Rattle.anyon_app.specs.Verdicts.{category_verdict, unless}

-- a category of version 2 has marks already
abbrev pub version_verdict : NamedSymbols → Option Reply
version_verdict named = if named.given.version == 2 then Some version_line else None

-- the category of version 1 of a text
abbrev pub first_work : List ℕ → (NamedSymbols → Work) → Work
first_work category next =
    read_work (too_long Category) named_of category (λ named. judged (unless (version_verdict named)) (λ _. next named))

-- a category with the marks of a text, or the reply at the text's first fault
abbrev pub marks_or : Result NamedSymbols Fault → Result NamedSymbols Reply
marks_or (Ok named) = Ok named
marks_or (Err fault) = Err (marks_line fault.line fault.cause)

-- the category with the marks that a text says, or the reply at its first fault
abbrev pub marks_of_text : NamedSymbols → List ℕ → Result NamedSymbols Reply
marks_of_text named text = marks_or (marks_in named text)

-- the same of the text of this name
abbrev pub marks_work : List ℕ → NamedSymbols → (NamedSymbols → Work) → Work
marks_work marks named next = read_work (too_long Marks) (marks_of_text named) marks next

-- what decides about a category, or its canonical text
abbrev pub text_judged : NamedSymbols → Result (List ℕ) Reply
text_judged named = do
  _ ← unless (category_verdict named)
  Ok (canonical named)

-- The category of the first text, which has version 1; the marks of the second; what decides about the category with its
-- marks; its canonical text.
unfoldable pub upgrade_work : (category marks : List ℕ) → Work
upgrade_work category marks =
    first_work category (λ named. marks_work marks named (λ marked. judged (text_judged marked) (λ text. Says (done text))))
