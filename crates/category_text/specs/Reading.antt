-- The category of a text, or its first fault.
use Rattle.std.specs.Prelude.{ℕ, ◌+◌, List, [], ◌∷◌, Bool, true, false, not, ◌&&◌, ◌||◌, ◌==◌, nat_lt, length, codes, if◌then◌else◌, Option, Some, None, Result, Ok, Err}
use Rattle.std.specs.Str.{bytes_eq}
use Rattle.line_text.specs.Text.{Found, Counted, Faulty, Reading, reading_of, words_of, word_in, has_word}
use Rattle.line_text.specs.Plain.{plain_number_of}
use Rattle.poly_core.specs.Rho.{is_accepted}
use Rattle.cyclo_core.specs.Ratio.{Ratio}
use Rattle.cyclo_text.specs.NumberWords.{number_of}
use Rattle.cyclo_text.specs.declared.fault.NumberWord.{NumberWord}
use Rattle.fusion_rules.specs.declared.label.TheConstants.{LABEL_LIMIT, UNIT}
use Rattle.fusion_rules.specs.Names.{label_of, all_names, has_repeat}
use Rattle.symbol_table.specs.Symbols.{Given}
use Rattle.symbol_table.specs.Index.{f_index, v_index}
use Rattle.symbol_table.specs.declared.index.FIndex.{FIndex}
use Rattle.symbol_table.specs.declared.index.VIndex.{VIndex}
use Rattle.symbol_table.specs.declared.draft.SetFault.{SetFault}
use Rattle.symbol_table.specs.declared.draft.SetFault.TheVariants as set
use Rattle.category_text.specs.declared.fault.CategoryCause.{CategoryCause}
use Rattle.category_text.specs.declared.fault.CategoryCause.TheVariants.{Line, Header, Root, Labels, Limit, Repeated, Misplaced, Word, Short, Long, UnknownLabel, UnitFuse, NotAdmissible, Number}
use Rattle.category_text.specs.declared.kind.Kind.{Kind}
use Rattle.category_text.specs.declared.kind.Kind.TheVariants.{F, R, W, V, Twist, Loop}
use Rattle.category_text.specs.declared.kind.LineKind.{LineKind}
use Rattle.category_text.specs.declared.kind.LineKind.TheVariants.{Fusion, OfSymbol}
use Rattle.category_text.specs.declared.kind.Symbol.{Symbol}
use Rattle.category_text.specs.declared.kind.Symbol.TheVariants.{OfF, OfR, OfW, OfV, OfTwist, OfLoop}
use Rattle.category_text.specs.Named.{NamedSymbols, only_units, with_fusion, symbol_fault, with_symbol}

-- a line that is refused, with its first cause
pub record Fault : Type 0 where
  pub line : ℕ
  pub cause : CategoryCause

infixl 10 ◌>>=◌
abbrev pub ◌>>=◌ : {A B E : Type 0} → Result A E → (A → Result B E) → Result B E
(Ok x) >>= f = f x
(Err e) >>= f = Err e

-- a cause, as the fault of a line
abbrev pub on_line : {A : Type 0} → ℕ → Result A CategoryCause → Result A Fault
on_line number (Ok x) = Ok x
on_line number (Err cause) = Err (record { line = number; cause = cause })

-- a cause unless a test holds
abbrev pub unless : Bool → CategoryCause → Result Unit CategoryCause
unless true cause = Ok tt
unless false cause = Err cause

-- too few words, or too many
abbrev pub sized : ℕ → List (List ℕ) → Result Unit CategoryCause
sized count words = if nat_lt (length words) count then Err Short else (if nat_lt count (length words) then Err Long else Ok tt)

-- The first three lines.

-- the version that a word names
abbrev pub version_of : List ℕ → Result ℕ CategoryCause
version_of word = if bytes_eq word (codes "1") then Ok 1 else (if bytes_eq word (codes "2") then Ok 2 else Err Header)

abbrev pub header_of : List (List ℕ) → Result ℕ CategoryCause
header_of words = do
  _ ← unless ((length words == 2) && has_word words 0 (codes "category")) Header
  version_of (word_in words 1)

-- a plain number that is an accepted root
abbrev pub root_at : Option ℕ → Result ℕ CategoryCause
root_at (Some number) = if is_accepted number then Ok number else Err Root
root_at None = Err Root

abbrev pub root_of : List (List ℕ) → Result ℕ CategoryCause
root_of words = do
  _ ← unless ((length words == 2) && has_word words 0 (codes "root")) Root
  root_at (plain_number_of (word_in words 1))

-- causes of the whole line: a name that is none, more than twelve, one that stands twice
abbrev pub names_in : List (List ℕ) → Result (List (List ℕ)) CategoryCause
names_in [] = Err Labels
names_in (name ∷ names) =
    if not (all_names (name ∷ names)) then Err Labels else (if nat_lt LABEL_LIMIT (length (name ∷ names)) then Err Limit else (if has_repeat (name ∷ names) then Err Repeated else Ok (name ∷ names)))

abbrev pub labels_of : List (List ℕ) → Result (List (List ℕ)) CategoryCause
labels_of [] = Err Labels
labels_of (first ∷ names) = if bytes_eq first (codes "labels") then names_in names else Err Labels

-- A line behind them.

-- What the lines before it said, and whether a symbol line is among them.
pub record SoFar : Type 0 where
  pub said : NamedSymbols
  pub has_symbols : Bool

abbrev pub named_by : Option ℕ → Result ℕ CategoryCause
named_by (Some number) = Ok number
named_by None = Err UnknownLabel

abbrev pub label : List (List ℕ) → List ℕ → Result ℕ CategoryCause
label names text = named_by (label_of names text)

-- the three labels from a place on
abbrev pub labels_at : List (List ℕ) → List (List ℕ) → ℕ → Result VIndex CategoryCause
labels_at names words place = do
  a ← label names (word_in words place)
  b ← label names (word_in words (place + 1))
  c ← label names (word_in words (place + 2))
  Ok (v_index a b c)

-- first the unit, then a triple that is there
abbrev pub fusion_fault : Given Ratio → VIndex → Option CategoryCause
fusion_fault g at = if at.a == UNIT || at.b == UNIT then Some UnitFuse else (if g.fuse at.a at.b at.c then Some Repeated else None)

abbrev pub fused : NamedSymbols → VIndex → Option CategoryCause → Result SoFar CategoryCause
fused said at (Some cause) = Err cause
fused said at None = Ok (record { said = record said { given = with_fusion said.given at.a at.b at.c }; has_symbols = false })

-- `fuse a b c`
unfoldable pub fuse_of : NamedSymbols → List (List ℕ) → Result SoFar CategoryCause
fuse_of said words = do
  _ ← sized 4 words
  at ← labels_at said.names words 1
  fused said at (fusion_fault said.given at)

-- the kind that a line's first word names
abbrev pub kind_of : List ℕ → Option Kind
kind_of text =
    if bytes_eq text (codes "f") then Some F else (if bytes_eq text (codes "r") then Some R
    else (if bytes_eq text (codes "w") then Some W else (if bytes_eq text (codes "v") then Some V
    else (if bytes_eq text (codes "twist") then Some Twist else (if bytes_eq text (codes "loop") then Some Loop else None)))))

-- whether a version has lines of a kind: those of marks stand in version 2 alone
abbrev pub has_kind : ℕ → Kind → Bool
has_kind version F = true
has_kind version R = true
has_kind version W = true
has_kind version V = true
has_kind version Twist = version == 2
has_kind version Loop = version == 2

abbrev pub known : ℕ → Kind → Result Unit CategoryCause
known version kind = unless (has_kind version kind) Word

-- the place of the number: behind six labels, behind three, or behind one
abbrev pub number_place : Kind → ℕ
number_place F = 7
number_place R = 4
number_place W = 4
number_place V = 4
number_place Twist = 2
number_place Loop = 2

-- the six labels from the second word on
abbrev pub six_labels : List (List ℕ) → List (List ℕ) → Result FIndex CategoryCause
six_labels names words = do
  first ← labels_at names words 1
  second ← labels_at names words 4
  Ok (f_index first.a first.b first.c second.a second.b second.c)

abbrev pub symbol_at : Kind → List (List ℕ) → List (List ℕ) → Result Symbol CategoryCause
symbol_at F names words = six_labels names words >>= λ at. Ok (OfF at)
symbol_at R names words = labels_at names words 1 >>= λ at. Ok (OfR at)
symbol_at W names words = labels_at names words 1 >>= λ at. Ok (OfW at)
symbol_at V names words = labels_at names words 1 >>= λ at. Ok (OfV at)
symbol_at Twist names words = label names (word_in words 1) >>= λ a. Ok (OfTwist a)
symbol_at Loop names words = label names (word_in words 1) >>= λ a. Ok (OfLoop a)

abbrev pub may_set : Option SetFault → Result Unit CategoryCause
may_set None = Ok tt
may_set (Some set.NotAdmissible) = Err NotAdmissible
may_set (Some _) = Err Repeated

abbrev pub numbered : Result Ratio NumberWord → Result Ratio CategoryCause
numbered (Ok value) = Ok value
numbered (Err fault) = Err (Number fault)

-- one value more, and a symbol line read
abbrev pub with_value : NamedSymbols → Symbol → Ratio → SoFar
with_value said at value = record { said = record said { given = with_symbol said.given at value }; has_symbols = true }

-- `f a b c d e f NUMBER`, `r a b c NUMBER`, `w a b c NUMBER`, `v a b c NUMBER`, and in version 2 `twist a NUMBER` and
-- `loop a NUMBER`
unfoldable pub symbol_of : Kind → NamedSymbols → List (List ℕ) → Result SoFar CategoryCause
symbol_of kind said words = do
  _ ← known said.given.version kind
  _ ← sized (number_place kind + 1) words
  at ← symbol_at kind said.names words
  _ ← may_set (symbol_fault said.given at)
  value ← numbered (number_of said.root (word_in words (number_place kind)))
  Ok (with_value said at value)

abbrev pub is_head : List ℕ → Bool
is_head text = bytes_eq text (codes "category") || (bytes_eq text (codes "root") || bytes_eq text (codes "labels"))

abbrev pub symbol_kind : Option Kind → Result LineKind CategoryCause
symbol_kind (Some kind) = Ok (OfSymbol kind)
symbol_kind None = Err Word

-- what a line gives by its first word; a line of the head stands only in front
abbrev pub line_kind : List (List ℕ) → Result LineKind CategoryCause
line_kind words =
    if is_head (word_in words 0) then Err Misplaced
    else (if has_word words 0 (codes "fuse") then Ok Fusion else symbol_kind (kind_of (word_in words 0)))

-- fuse lines stand before all symbol lines
abbrev pub line_by : LineKind → SoFar → List (List ℕ) → Result SoFar CategoryCause
line_by Fusion before words = if before.has_symbols then Err Misplaced else fuse_of before.said words
line_by (OfSymbol kind) before words = symbol_of kind before.said words

-- one line behind the labels
unfoldable pub line_of : SoFar → List (List ℕ) → Result SoFar CategoryCause
line_of before words = do
  kind ← line_kind words
  line_by kind before words

-- The whole text.

-- a line that has to come: its number, its words, and what is found behind it
abbrev pub required : CategoryCause → ℕ → List Found → Result (ℕ × (List (List ℕ) × List Found)) Fault
required missing count [] = Err (record { line = count + 1; cause = missing })
required missing count (Faulty number cause ∷ more) = Err (record { line = number; cause = Line cause })
required missing count (Counted number text ∷ more) = Ok (number, (words_of text, more))

-- the version and the root, and the line behind them
unfoldable pub front_of : Reading → Result ((ℕ × ℕ) × (ℕ × (List (List ℕ) × List Found))) Fault
front_of text = do
  first ← required Header text.count text.ahead
  version ← on_line first.0 (header_of first.1.0)
  second ← required Root text.count first.1.1
  root ← on_line second.0 (root_of second.1.0)
  third ← required Labels text.count second.1.1
  Ok ((version, root), third)

-- the version and the root, the names, and what is found behind the labels
unfoldable pub head_of : Reading → Result (((ℕ × ℕ) × List (List ℕ)) × List Found) Fault
head_of text = do
  front ← front_of text
  names ← on_line front.1.0 (labels_of front.1.1.0)
  Ok ((front.0, names), front.1.1.1)

-- line after line, each read over what those before it said
abbrev pub body_of : SoFar → List Found → Result SoFar Fault
body_of before [] = Ok before
body_of before (Faulty number cause ∷ more) = Err (record { line = number; cause = Line cause })
body_of before (Counted number text ∷ more) = on_line number (line_of before (words_of text)) >>= λ next. body_of next more

-- the names alone: the unit triples, and every symbol 1
abbrev pub begun : ℕ → ℕ → List (List ℕ) → SoFar
begun version root names = record { said = record { root = root; names = names; given = only_units version (length names) }; has_symbols = false }

unfoldable pub category_of : List ℕ → Result NamedSymbols Fault
category_of bytes = do
  head ← head_of (reading_of 0 bytes)
  whole ← body_of (begun head.0.0.0 head.0.0.1 head.0.1) head.1
  Ok whole.said
