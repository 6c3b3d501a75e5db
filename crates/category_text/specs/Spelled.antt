-- Texts of a head, triples and values, spelled line by line.
use Rattle.std.specs.Prelude.{◌≡◌, ℕ, ◌<◌, List, [], ◌∷◌, ◌++◌, true, false, ◌==◌, length, map, codes, None, Ok}
use Rattle.line_text.specs.Spelling.{spelled, ArePlainLines}
use Rattle.poly_core.specs.Rho.{is_accepted}
use Rattle.cyclo_core.specs.Ratio.{Ratio}
use Rattle.cyclo_text.specs.NumberWords.{number_of, spelled_number}
use Rattle.fusion_rules.specs.declared.label.TheConstants.{UNIT}
use Rattle.fusion_rules.specs.Names.{AreNames, name_of}
use Rattle.symbol_table.specs.declared.index.VIndex.{VIndex}
use Rattle.category_text.specs.declared.kind.Symbol.{Symbol}
use Rattle.category_text.specs.declared.kind.Symbol.TheVariants.{OfF, OfR, OfW, OfV, OfTwist, OfLoop}
use Rattle.category_text.specs.Named.{IsVersion, NamedSymbols, has_symbol, with_fusion, with_symbol, symbol_fault}
use Rattle.category_text.specs.Reading.{begun, category_of}
use Rattle.category_text.specs.Answers.{SymbolBelow}
use Rattle.category_text.specs.Canonical.{fuse_line, head_lines}

-- the words of a symbol's line
abbrev pub symbol_words : List (List ℕ) → Symbol → Ratio → List (List ℕ)
symbol_words names (OfF at) value =
    codes "f" ∷ name_of names at.a ∷ name_of names at.b ∷ name_of names at.c ∷ name_of names at.d ∷ name_of names at.e ∷ name_of names at.f ∷ spelled_number value ∷ []
symbol_words names (OfR at) value = codes "r" ∷ name_of names at.a ∷ name_of names at.b ∷ name_of names at.c ∷ spelled_number value ∷ []
symbol_words names (OfW at) value = codes "w" ∷ name_of names at.a ∷ name_of names at.b ∷ name_of names at.c ∷ spelled_number value ∷ []
symbol_words names (OfV at) value = codes "v" ∷ name_of names at.a ∷ name_of names at.b ∷ name_of names at.c ∷ spelled_number value ∷ []
symbol_words names (OfTwist a) value = codes "twist" ∷ name_of names a ∷ spelled_number value ∷ []
symbol_words names (OfLoop a) value = codes "loop" ∷ name_of names a ∷ spelled_number value ∷ []

-- what is said with one triple more, and with one value more
abbrev pub fused_with : NamedSymbols → VIndex → NamedSymbols
fused_with said t = record said { given = with_fusion said.given t.a t.b t.c }

abbrev pub set_with : NamedSymbols → Symbol → Ratio → NamedSymbols
set_with said s x = record said { given = with_symbol said.given s x }

-- what is said with many more
abbrev pub fused_all : NamedSymbols → List VIndex → NamedSymbols
fused_all said [] = said
fused_all said (t ∷ ts) = fused_all (fused_with said t) ts

abbrev pub set_all : NamedSymbols → List (Symbol × Ratio) → NamedSymbols
set_all said [] = said
set_all said (s ∷ ss) = set_all (set_with said s.0 s.1) ss

-- triples, none of the unit or twice; values at admissible indices, none twice, and marks in version 2 alone
abbrev pub FreshTriples : NamedSymbols → List VIndex → Type 0
FreshTriples said [] = Unit {0}
FreshTriples said (t ∷ ts) =
    (t.a < length said.names) × (t.b < length said.names) × (t.c < length said.names) × ((t.a == UNIT) ≡ false) × ((t.b == UNIT) ≡ false) × (said.given.fuse t.a t.b t.c ≡ false) × FreshTriples (fused_with said t) ts

abbrev pub FreshSymbols : NamedSymbols → List (Symbol × Ratio) → Type 0
FreshSymbols said [] = Unit {0}
FreshSymbols said (s ∷ ss) =
    (has_symbol said.given.version s.0 ≡ true) × SymbolBelow (length said.names) s.0 × (symbol_fault said.given s.0 ≡ None) × (number_of said.root (spelled_number s.1) ≡ Ok s.1) × FreshSymbols (set_with said s.0 s.1) ss

abbrev pub words_at : List (List ℕ) → Symbol × Ratio → List (List ℕ)
words_at names s = symbol_words names s.0 s.1

-- the lines of triples and values over a head
abbrev pub lines_over : NamedSymbols → List VIndex → List (Symbol × Ratio) → List (List (List ℕ))
lines_over said ts ss = head_lines said ++ (map (fuse_line said) ts ++ map (words_at said.names) ss)

-- what is said by a head alone: the unit triples, and every symbol 1
abbrev pub head_alone : ℕ → ℕ → List (List ℕ) → NamedSymbols
head_alone version root names = (begun version root names).said

-- A spelled text of plain lines, with new triples behind the head and values of new indices behind them, says exactly these.
abbrev pub SpelledAgain : Type 0
SpelledAgain =
    (version root : ℕ) (names : List (List ℕ)) (ts : List VIndex) (ss : List (Symbol × Ratio)) → IsVersion version → AreNames names → 0 < length names → is_accepted root ≡ true
    → FreshTriples (head_alone version root names) ts → FreshSymbols (fused_all (head_alone version root names) ts) ss → ArePlainLines (lines_over (head_alone version root names) ts ss)
    → category_of (spelled (lines_over (head_alone version root names) ts ss)) ≡ Ok (set_all (fused_all (head_alone version root names) ts) ss)
