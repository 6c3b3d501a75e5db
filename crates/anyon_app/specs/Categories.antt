-- What a category text is to a command that reads one.
use Rattle.std.specs.Prelude.{ℕ, List, Result, Ok, Err}
use Rattle.category_text.specs.Named.{NamedSymbols}
use Rattle.category_text.specs.Reading.{Fault, category_of}
use Rattle.anyon_app.specs.declared.texts.Kind as text
use Rattle.anyon_app.specs.declared.texts.Kind.TheVariants.{Category}
use Rattle.anyon_app.specs.Replies.{Reply}
use Rattle.anyon_app.specs.Refusals.{category_line}

-- the category of a text of a kind, or the reply at its first fault
abbrev pub named_or : text.Kind → Result NamedSymbols Fault → Result NamedSymbols Reply
named_or kind (Ok named) = Ok named
named_or kind (Err fault) = Err (category_line kind fault.line fault.cause)

-- the symbols that a text of this kind says, or the reply at its first fault
abbrev pub named_as : text.Kind → List ℕ → Result NamedSymbols Reply
named_as kind text = named_or kind (category_of text)

-- the same of a category text
abbrev pub named_of : List ℕ → Result NamedSymbols Reply
named_of = named_as Category
