-- What functions of the code answer: what is stated, unless memory runs out.
use Rattle.std.specs.Prelude.{◌≡◌, ℕ, ◌<◌, List, [], ◌∷◌, ◌++◌, true, false, ◌==◌, nat_lt, length, if◌then◌else◌, Option, Some, None, Result, Ok, Err}
use Rattle.line_text.specs.Text.{Found, Counted}
use Rattle.line_text.specs.declared.fault.LineFault.{LineFault}
use Rattle.fusion_rules.specs.declared.label.TheConstants.{LABEL_LIMIT}
use Rattle.fusion_rules.specs.Fusion.{Fusion, fuses}
use Rattle.fusion_rules.specs.Names.{is_among, is_name}
use Rattle.symbol_table.specs.Symbols.{Given}
use Rattle.symbol_table.specs.Index.{AreSixLabels, AreThreeLabels}
use Rattle.cyclo_core.specs.Ratio.{Ratio}
use Rattle.category_text.specs.declared.fault.CategoryCause.{CategoryCause}
use Rattle.category_text.specs.declared.fault.CategoryCause.TheVariants.{Labels, Limit, Line, Repeated}
use Rattle.category_text.specs.declared.fault.CategoryFault.{CategoryFault}
use Rattle.category_text.specs.declared.fault.CategoryFault.TheVariants.{At, Memory}
use Rattle.category_text.specs.declared.fault.Refused.{Refused}
use Rattle.category_text.specs.declared.fault.Stop.{Stop}
use Rattle.category_text.specs.declared.fault.Stop.TheVariants.{Cause}
use Rattle.category_text.specs.declared.kind.Symbol.{Symbol}
use Rattle.category_text.specs.declared.kind.Symbol.TheVariants.{OfF, OfR, OfW, OfV, OfTwist, OfLoop}
use Rattle.category_text.specs.declared.symbol_line.SymbolLine.{SymbolLine}
use Rattle.symbol_table.specs.Draft.{DraftValue}
use Rattle.symbol_table.specs.declared.draft.MarkFault.{MarkFault}
use Rattle.symbol_table.specs.declared.draft.MarkFault.TheVariants as mark
use Rattle.symbol_table.specs.declared.draft.SetFault.{SetFault}
use Rattle.symbol_table.specs.declared.draft.SetFault.TheVariants as set
use Rattle.category_text.specs.Named.{NamedSymbols, named_draft}
use Rattle.category_text.specs.Reading.{◌>>=◌, Fault, SoFar, body_of}

-- A line: what is stated, as functions tell it that take no memory.
abbrev pub Tells : {X Y : Type 0} → (X → Y) → Result X CategoryCause → Result Y CategoryCause → Type 0
Tells view (Ok x) stated = stated ≡ Ok (view x)
Tells view (Err cause) stated = stated ≡ Err cause

-- The same of a line that is kept in memory.
abbrev pub LineFails : {Y : Type 0} → Stop → Result Y CategoryCause → Type 0
LineFails Stop.Memory stated = Unit {0}
LineFails (Cause cause) stated = stated ≡ Err cause

abbrev pub Says : {X Y : Type 0} → (X → Y) → Result X Stop → Result Y CategoryCause → Type 0
Says view (Ok x) stated = stated ≡ Ok (view x)
Says view (Err stop) stated = LineFails stop stated

-- Lines: what is stated, as functions tell it that take no memory.
abbrev pub fault_at : Refused → Fault
fault_at refused = record { line = refused.line; cause = refused.cause }

abbrev pub TellsLines : {X Y : Type 0} → (X → Y) → Result X Refused → Result Y Fault → Type 0
TellsLines view (Ok x) stated = stated ≡ Ok (view x)
TellsLines view (Err refused) stated = stated ≡ Err (fault_at refused)

-- The same of lines that are kept in memory.
abbrev pub Fails : {Y : Type 0} → CategoryFault → Result Y Fault → Type 0
Fails Memory stated = Unit {0}
Fails (At line cause) stated = stated ≡ Err (record { line = line; cause = cause })

abbrev pub Told : {X Y : Type 0} → (X → Y) → Result X CategoryFault → Result Y Fault → Type 0
Told view (Ok x) stated = stated ≡ Ok (view x)
Told view (Err fault) stated = Fails fault stated

abbrev pub refused_line : LineFault → Refused
refused_line fault = record { line = fault.line; cause = Line fault.cause }

abbrev pub lined_at : {X : Type 0} → ℕ → Result X CategoryCause → Result X Refused
lined_at line (Ok x) = Ok x
lined_at line (Err cause) = Err (record { line = line; cause = cause })

abbrev pub told_at : {X : Type 0} → ℕ → Result X Stop → Result X CategoryFault
told_at line (Ok x) = Ok x
told_at line (Err Stop.Memory) = Err Memory
told_at line (Err (Cause cause)) = Err (At line cause)

-- What the lines so far said.

-- the triples of rules, and no value, in version 1
abbrev pub rules_given : Fusion → Given Ratio
rules_given rules = record {
  version = 1;
  count = rules.count;
  fuse = fuses rules;
  set_f = λ a b c d e f. None;
  set_r = λ a b c. None;
  set_w = λ a b c. None;
  set_v = λ a b c. None;
  set_twist = λ a. None;
  set_loop = λ a. None;
}

-- rules alone, as a draft of no value
abbrev pub bare : ℕ → ℕ → Fusion → DraftValue ℕ Ratio
bare version ring rules = record { version = version; ring = ring; rules = rules; set_f = []; set_r = []; set_w = []; set_v = []; set_twist = []; set_loop = [] }

-- while fuse lines are read, and from the first symbol line on
abbrev pub fusing : ℕ → ℕ → List (List ℕ) → Fusion → SoFar
fusing version ring names rules = record { said = named_draft names (bare version ring rules); has_symbols = false }

abbrev pub setting : List (List ℕ) → DraftValue ℕ Ratio → SoFar
setting names draft = record { said = named_draft names draft; has_symbols = true }

-- what a text says that is read to its end over what the lines so far said
abbrev pub body_said : SoFar → List Found → Result NamedSymbols Fault
body_said before found = body_of before found >>= λ whole. Ok whole.said

-- what is left to be found, with a symbol line in front that was found and not read
abbrev pub left_of : Option SymbolLine → List Found → List Found
left_of None found = []
left_of (Some symbol) found = Counted symbol.line.number symbol.line.text.now ∷ found

-- What is left behind the fuse lines, in any version and over any ring: the text says what the rest says over these rules.
abbrev pub Fuses : List (List ℕ) → Result (Option SymbolLine) Refused → Fusion → Fusion → List Found → List Found → Type 0
Fuses names (Ok first) old new found left =
    (version ring : ℕ) → body_said (fusing version ring names old) found ≡ body_said (setting names (bare version ring new)) (left_of first left)
Fuses names (Err refused) old new found left = (version ring : ℕ) → body_said (fusing version ring names old) found ≡ Err (fault_at refused)

-- the next symbol line behind others
abbrev pub FindsSymbol : Result (Option SymbolLine) Refused → List Found → List Found → Type 0
FindsSymbol (Ok next) found left = (said : NamedSymbols) → body_said (record { said = said; has_symbols = true }) found ≡ body_said (record { said = said; has_symbols = true }) (left_of next left)
FindsSymbol (Err refused) found left = (said : NamedSymbols) → body_said (record { said = said; has_symbols = true }) found ≡ Err (fault_at refused)

-- a cause, if there is one
abbrev pub may : Option CategoryCause → Result Unit CategoryCause
may None = Ok tt
may (Some cause) = Err cause

-- the labels of a symbol are below a count
abbrev pub SymbolBelow : ℕ → Symbol → Type 0
SymbolBelow count (OfF at) = AreSixLabels count at.a at.b at.c at.d at.e at.f
SymbolBelow count (OfR at) = AreThreeLabels count at.a at.b at.c
SymbolBelow count (OfW at) = AreThreeLabels count at.a at.b at.c
SymbolBelow count (OfV at) = AreThreeLabels count at.a at.b at.c
SymbolBelow count (OfTwist a) = a < count
SymbolBelow count (OfLoop a) = a < count

-- what a setter of marks answers, as one of symbols would
abbrev pub as_set_fault : Result Unit MarkFault → Result Unit SetFault
as_set_fault (Ok done) = Ok done
as_set_fault (Err mark.Repeated) = Err set.Repeated
as_set_fault (Err mark.Memory) = Err set.Memory

-- The names of a labels line, one after the other.

-- what is told of the names that were added of so many words
abbrev pub judged_of : List (List ℕ) → ℕ → Result (List (List ℕ)) CategoryCause
judged_of names words =
    if words == 0 then Err Labels else (if nat_lt LABEL_LIMIT words then Err Limit else (if nat_lt (length names) words then Err Repeated else Ok names))

-- names with one more, where there is room and it isn't among them
abbrev pub add_to : List (List ℕ) → List ℕ → List (List ℕ)
add_to names name = if length names == LABEL_LIMIT then names else (if is_among names name then names else names ++ name ∷ [])

abbrev pub kept : List (List ℕ) → List (List ℕ) → List (List ℕ)
kept names [] = names
kept names (name ∷ more) = kept (add_to names name) more

abbrev pub kept_of : List (List ℕ) → List ℕ → Result (List (List ℕ)) CategoryCause
kept_of names text = if is_name text then Ok (add_to names text) else Err Labels
