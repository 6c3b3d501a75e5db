-- The lines of names, triples and numbers are plain.
use Rattle.std.proofs.Common.{◌≡◌, ℕ, ◌*◌, ◌<◌, ◌≤◌, List, [], ◌∷◌, true, false, length, map, refl, arith, codes, inl, inr}
use Rattle.std.specs.Fmt.{decimal}
use Rattle.std.proofs.lemmas.Bool.Decides.{nat_tests}
use Rattle.std.proofs.lemmas.List.{length-append}
use Rattle.cyclo_core.specs.Ratio.{Ratio}
use Rattle.cyclo_text.specs.NumberWords.{spelled_number}
use Rattle.fusion_rules.specs.Names.{is_name, all_names, all_name_bytes, AreNames, name_of}
use Rattle.fusion_rules.proofs.FoundLemmas as found
use Rattle.fusion_rules.proofs.NameLemmas.{spelled}
use Rattle.line_text.proofs.PlainWordLemmas.{IsWord, IsLine, some_word, decimal_word, one_word, word_before, plain_append}
use Rattle.line_text.specs.Spelling.{spaced, plain_bytes, IsPlainLine, ArePlainLines}
use Rattle.line_text.specs.Text.{skips}
use Rattle.symbol_table.specs.Index.{AreThreeLabels}
use Rattle.symbol_table.specs.declared.index.VIndex.{VIndex}
use Rattle.category_text.specs.declared.kind.Symbol.{Symbol}
use Rattle.category_text.specs.declared.kind.Symbol.TheVariants.{OfF, OfR, OfW, OfV, OfTwist, OfLoop}
use Rattle.category_text.specs.Answers.{SymbolBelow}
use Rattle.category_text.specs.Named.{IsVersion, NamedSymbols}
use Rattle.category_text.specs.Canonical.{fuse_line, version_word}
use Rattle.category_text.specs.Spelled.{symbol_words, words_at, lines_over, head_alone}
use Rattle.category_text.proofs.FreshLemmas.{Each}

name_bytes : (cs : List ℕ) → all_name_bytes cs ≡ true → plain_bytes cs ≡ true
name_bytes [] e = refl
name_bytes (c ∷ cs) e = grind (arith, nat_tests, name_bytes cs)

name_word : (word : List ℕ) → is_name word ≡ true → IsWord word 8
name_word word e = let s = spelled word e in record { plain = some_word word (name_bytes word s.0) s.2; short = s.1 }

name_at : (names : List (List ℕ)) (a : ℕ) → all_names names ≡ true → a < length names → IsWord (name_of names a) 8
name_at names a all within = name_word (name_of names a) (found.name_at names a all within)

names_line : (name : List ℕ) (names : List (List ℕ)) → all_names (name ∷ names) ≡ true → IsLine (name ∷ names) (9 * length (name ∷ names))
names_line n [] all = let w = name_word n (grind arith) in record { plain = rw w.plain refl; short = omega (arith, w.short) }
names_line n (m ∷ ns) all =
    let w = name_word n (grind arith) in
    let rest = names_line m ns (grind arith) in record { plain = rw w.plain rest.plain; short = omega (arith, w.short, rest.short, length-append n (32 ∷ spaced (m ∷ ns))) }

module _ (names : List (List ℕ)) (all : all_names names ≡ true) where
  fuse_plain : (said : NamedSymbols) (t : VIndex) → said.names ≡ names → AreThreeLabels (length names) t.a t.b t.c → IsPlainLine (fuse_line said t)
  fuse_plain said t same (a, b, c) =
      let first = name_at names t.a all a in
      let second = name_at names t.b all b in
      let line = word_before (name_of names t.a) (name_of names t.b) (name_of names t.c ∷ []) 8 17 first (word_before (name_of names t.b) (name_of names t.c) [] 8 8 second (one_word (name_of names t.c) 8 (name_at names t.c all c))) in
      let whole = word_before (codes "fuse") (name_of names t.a) (name_of names t.b ∷ name_of names t.c ∷ []) 4 26 (record { plain = refl; short = omega arith }) line in
      rw same (record { plain = whole.plain; counts = refl; short = omega (arith, whole.short) })

  -- three names, and a number
  vertex_line : (a b c : ℕ) (word : List ℕ) → AreThreeLabels (length names) a b c → IsWord word 695 → IsLine (name_of names a ∷ name_of names b ∷ name_of names c ∷ word ∷ []) 722
  vertex_line a b c word (p, q, r) w =
      word_before (name_of names a) (name_of names b) (name_of names c ∷ word ∷ []) 8 713 (name_at names a all p)
      (word_before (name_of names b) (name_of names c) (word ∷ []) 8 704 (name_at names b all q)
      (word_before (name_of names c) word [] 8 695 (name_at names c all r) (one_word word 695 w)))

  -- a word that begins a line, a name, and a number
  mark_plain : (word : List ℕ) (a : ℕ) (value : Ratio) → IsWord word 5 → ((more : List (List ℕ)) → skips (word ∷ more) ≡ false) → a < length names → IsWord (spelled_number value) 695
      → IsPlainLine (word ∷ name_of names a ∷ spelled_number value ∷ [])
  mark_plain word a value first counts label w =
      let line = word_before (name_of names a) (spelled_number value) [] 8 695 (name_at names a all label) (one_word (spelled_number value) 695 w) in
      let whole = word_before word (name_of names a) (spelled_number value ∷ []) 5 704 first line in
      record { plain = whole.plain; counts = counts (name_of names a ∷ spelled_number value ∷ []); short = omega (arith, whole.short) }

  symbol_plain : (s : Symbol) (value : Ratio) → SymbolBelow (length names) s → IsWord (spelled_number value) 695 → IsPlainLine (symbol_words names s value)
  symbol_plain (OfF at) value (a, b, c, d, e, f) w =
      let last = vertex_line at.d at.e at.f (spelled_number value) (d, e, f) w in
      let first = word_before (name_of names at.a) (name_of names at.b) (name_of names at.c ∷ name_of names at.d ∷ name_of names at.e ∷ name_of names at.f ∷ spelled_number value ∷ []) 8 740 (name_at names at.a all a)
      (word_before (name_of names at.b) (name_of names at.c) (name_of names at.d ∷ name_of names at.e ∷ name_of names at.f ∷ spelled_number value ∷ []) 8 731 (name_at names at.b all b)
      (word_before (name_of names at.c) (name_of names at.d) (name_of names at.e ∷ name_of names at.f ∷ spelled_number value ∷ []) 8 722 (name_at names at.c all c) last)) in
      let whole = word_before (codes "f") (name_of names at.a) (name_of names at.b ∷ name_of names at.c ∷ name_of names at.d ∷ name_of names at.e ∷ name_of names at.f ∷ spelled_number value ∷ []) 1 749 (record { plain = refl; short = omega arith }) first in
      record { plain = whole.plain; counts = refl; short = omega (arith, whole.short) }
  symbol_plain (OfR at) value labels w =
      let whole = word_before (codes "r") (name_of names at.a) (name_of names at.b ∷ name_of names at.c ∷ spelled_number value ∷ []) 1 722 (record { plain = refl; short = omega arith }) (vertex_line at.a at.b at.c (spelled_number value) labels w) in
      record { plain = whole.plain; counts = refl; short = omega (arith, whole.short) }
  symbol_plain (OfW at) value labels w =
      let whole = word_before (codes "w") (name_of names at.a) (name_of names at.b ∷ name_of names at.c ∷ spelled_number value ∷ []) 1 722 (record { plain = refl; short = omega arith }) (vertex_line at.a at.b at.c (spelled_number value) labels w) in
      record { plain = whole.plain; counts = refl; short = omega (arith, whole.short) }
  symbol_plain (OfV at) value labels w =
      let whole = word_before (codes "v") (name_of names at.a) (name_of names at.b ∷ name_of names at.c ∷ spelled_number value ∷ []) 1 722 (record { plain = refl; short = omega arith }) (vertex_line at.a at.b at.c (spelled_number value) labels w) in
      record { plain = whole.plain; counts = refl; short = omega (arith, whole.short) }
  symbol_plain (OfTwist a) value label w = mark_plain (codes "twist") a value (record { plain = refl; short = omega arith }) (λ more. refl) label w
  symbol_plain (OfLoop a) value label w = mark_plain (codes "loop") a value (record { plain = refl; short = omega arith }) (λ more. refl) label w

  fuses_plain : (said : NamedSymbols) (ts : List VIndex) → said.names ≡ names → Each (λ (t : VIndex). AreThreeLabels (length names) t.a t.b t.c) ts → ArePlainLines (map (fuse_line said) ts)
  fuses_plain said [] same labels = tt
  fuses_plain said (t ∷ ts) same labels = (fuse_plain said t same labels.0, fuses_plain said ts same labels.1)

  symbols_plain : (ss : List (Symbol × Ratio)) → Each (λ (s : Symbol × Ratio). SymbolBelow (length names) s.0 × IsWord (spelled_number s.1) 695) ss → ArePlainLines (map (words_at names) ss)
  symbols_plain [] each = tt
  symbols_plain (s ∷ ss) each = (symbol_plain s.0 s.1 each.0.0 each.0.1, symbols_plain ss each.1)

root_plain : (root : ℕ) → 0 < root → root ≤ 60 → IsPlainLine (codes "root" ∷ decimal root ∷ [])
root_plain root some small =
    let whole = word_before (codes "root") (decimal root) [] 4 39 (record { plain = refl; short = omega arith }) (one_word (decimal root) 39 (decimal_word root 39 (omega arith) (omega arith) (omega arith))) in
    record { plain = whole.plain; counts = refl; short = omega (arith, whole.short) }

labels_plain : (names : List (List ℕ)) → AreNames names → 0 < length names → IsPlainLine (codes "labels" ∷ names)
labels_plain [] are some = absurd (omega arith)
labels_plain (n ∷ ns) are some =
    let whole = word_before (codes "labels") n ns 6 (9 * length (n ∷ ns)) (record { plain = refl; short = omega arith }) (names_line n ns are.spelled) in
    record { plain = whole.plain; counts = refl; short = omega (arith, whole.short, are.few) }

header_plain : (version : ℕ) → IsVersion version → IsPlainLine (codes "category" ∷ version_word version ∷ [])
header_plain version (inl e) = rw e (record { plain = refl; counts = refl; short = omega arith })
header_plain version (inr e) = rw e (record { plain = refl; counts = refl; short = omega arith })

pub plain_lines : (version root : ℕ) (names : List (List ℕ)) (ts : List VIndex) (ss : List (Symbol × Ratio)) → IsVersion version → AreNames names → 0 < length names → 0 < root → root ≤ 60
    → Each (λ (t : VIndex). AreThreeLabels (length names) t.a t.b t.c) ts → Each (λ (s : Symbol × Ratio). SymbolBelow (length names) s.0 × IsWord (spelled_number s.1) 695) ss
    → ArePlainLines (lines_over (head_alone version root names) ts ss)
plain_lines version root names ts ss is are some low high labels each = (
  header_plain version is,
  (
    root_plain root low high,
    (
      labels_plain names are some,
      plain_append (map (fuse_line (head_alone version root names)) ts) (map (words_at names) ss) (fuses_plain names are.spelled (head_alone version root names) ts refl labels) (symbols_plain names are.spelled ss each),
    ),
  ),
)
