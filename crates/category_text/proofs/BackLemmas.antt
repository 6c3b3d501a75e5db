-- Lines that are written are read again.
use Rattle.std.proofs.Common.{◌≡◌, ℕ, ◌+◌, ◌<◌, ◌≤◌, List, [], ◌∷◌, ◌++◌, Bool, length, map, refl, ap, ◌∙◌, arith, true, false, ◌==◌, ltb, None, Ok, codes, sym, subst, inl, inr}
use Rattle.std.specs.Fmt.{decimal}
use Rattle.std.proofs.lemmas.Bool.Decides.{nat_tests}
use Rattle.line_text.specs.Text.{Found, Counted, words_of, lines_of, found_in}
use Rattle.line_text.specs.Spelling.{spaced, spelled, counted, all_plain, ArePlainLines}
use Rattle.line_text.proofs.PlainLemmas.{number_again}
use Rattle.line_text.proofs.SpellingLemmas.{words_again, found_again}
use Rattle.fusion_rules.specs.declared.label.TheConstants.{LABEL_LIMIT}
use Rattle.fusion_rules.specs.Names.{AreNames}
use Rattle.fusion_rules.proofs.FoundLemmas.{label_again}
use Rattle.poly_core.specs.Rho.{is_accepted}
use Rattle.poly_core.proofs.RhoLemmas.{accepted_small}
use Rattle.cyclo_core.specs.Ratio.{Ratio}
use Rattle.cyclo_text.specs.NumberWords.{number_of, spelled_number}
use Rattle.symbol_table.specs.declared.index.VIndex.{VIndex}
use Rattle.category_text.specs.declared.kind.Symbol.{Symbol}
use Rattle.category_text.specs.declared.kind.Symbol.TheVariants.{OfF, OfR, OfW, OfV, OfTwist, OfLoop}
use Rattle.category_text.specs.Named.{IsVersion, NamedSymbols, has_symbol, symbol_fault}
use Rattle.category_text.specs.Reading.{SoFar, line_of, fuse_of, symbol_of, body_of, front_of, head_of, header_of, root_of, labels_of, begun, category_of}
use Rattle.category_text.specs.Answers.{SymbolBelow}
use Rattle.category_text.specs.Canonical.{fuse_line, version_word}
use Rattle.category_text.specs.Spelled.{symbol_words, fused_with, set_with, fused_all, set_all, FreshTriples, FreshSymbols, words_at, lines_over, SpelledAgain}

fuse_again : (said : NamedSymbols) (t : VIndex) → AreNames said.names → t.a < length said.names → t.b < length said.names → t.c < length said.names → (t.a == 0) ≡ false → (t.b == 0) ≡ false → said.given.fuse t.a t.b t.c ≡ false
    → line_of (record { said = said; has_symbols = false }) (fuse_line said t) ≡ Ok (record { said = fused_with said t; has_symbols = false })
unfolding line_of fuse_of
fuse_again said t are a b c a_some b_some new =
    rw (label_again said.names t.a are a, label_again said.names t.b are b, label_again said.names t.c are c, a_some, b_some, new) refl

symbol_again : (said : NamedSymbols) (started : Bool) (s : Symbol) (x : Ratio) → AreNames said.names → has_symbol said.given.version s ≡ true → SymbolBelow (length said.names) s → symbol_fault said.given s ≡ None → number_of said.root (spelled_number x) ≡ Ok x
    → line_of (record { said = said; has_symbols = started }) (symbol_words said.names s x) ≡ Ok (record { said = set_with said s x; has_symbols = true })
unfolding line_of symbol_of
symbol_again said started (OfF at) x are known (a, b, c, d, e, f) free read =
    rw (label_again said.names at.a are a, label_again said.names at.b are b, label_again said.names at.c are c, label_again said.names at.d are d, label_again said.names at.e are e, label_again said.names at.f are f, free, read) refl
symbol_again said started (OfR at) x are known (a, b, c) free read = rw (label_again said.names at.a are a, label_again said.names at.b are b, label_again said.names at.c are c, free, read) refl
symbol_again said started (OfW at) x are known (a, b, c) free read = rw (label_again said.names at.a are a, label_again said.names at.b are b, label_again said.names at.c are c, free, read) refl
symbol_again said started (OfV at) x are known (a, b, c) free read = rw (label_again said.names at.a are a, label_again said.names at.b are b, label_again said.names at.c are c, free, read) refl
symbol_again said started (OfTwist at) x are known a free read = rw (known, label_again said.names at are a, free, read) refl
symbol_again said started (OfLoop at) x are known a free read = rw (known, label_again said.names at are a, free, read) refl

-- Line after line.
abbrev pub AllPlain : List (List (List ℕ)) → Type 0
AllPlain [] = Unit {0}
AllPlain (ws ∷ ls) = (all_plain ws ≡ true) × AllPlain ls

step : (before next : SoFar) (words : List (List ℕ)) (n : ℕ) (more : List Found) (end : SoFar) → all_plain words ≡ true → line_of before words ≡ Ok next → body_of next more ≡ Ok end → body_of before (Counted n (spaced words) ∷ more) ≡ Ok end
step before next words n more end plain is later = rw (words_again words plain, is) later

pub fuses_again : (said : NamedSymbols) (ts : List VIndex) (rest : List (List (List ℕ))) (end : SoFar) → AreNames said.names → FreshTriples said ts → AllPlain (map (fuse_line said) ts)
    → ((m : ℕ) → body_of (record { said = fused_all said ts; has_symbols = false }) (counted m rest) ≡ Ok end) → (n : ℕ) → body_of (record { said = said; has_symbols = false }) (counted n (map (fuse_line said) ts ++ rest)) ≡ Ok end
fuses_again said [] rest end are fresh plain later n = later n
fuses_again said (t ∷ ts) rest end are fresh plain later n =
    let (a, b, c, a_some, b_some, new, more) = fresh in
    step (record { said = said; has_symbols = false }) (record { said = fused_with said t; has_symbols = false }) (fuse_line said t) (n + 1) (counted (n + 1) (map (fuse_line said) ts ++ rest)) end plain.0
    (fuse_again said t are a b c a_some b_some new) (fuses_again (fused_with said t) ts rest end are more plain.1 later (n + 1))

-- whether a symbol line was read
abbrev pub starts : Bool → List (Symbol × Ratio) → Bool
starts started [] = started
starts started (s ∷ ss) = starts true ss

pub symbols_again : (said : NamedSymbols) (started : Bool) (ss : List (Symbol × Ratio)) → AreNames said.names → FreshSymbols said ss → AllPlain (map (words_at said.names) ss)
    → (n : ℕ) → body_of (record { said = said; has_symbols = started }) (counted n (map (words_at said.names) ss)) ≡ Ok (record { said = set_all said ss; has_symbols = starts started ss })
symbols_again said started [] are fresh plain n = refl
symbols_again said started (s ∷ ss) are fresh plain n =
    let (known, below, free, read, more) = fresh in
    step (record { said = said; has_symbols = started }) (record { said = set_with said s.0 s.1; has_symbols = true }) (symbol_words said.names s.0 s.1) (n + 1) (counted (n + 1) (map (words_at said.names) ss)) (record { said = set_all said (s ∷ ss); has_symbols = starts true ss }) plain.0
    (symbol_again said started s.0 s.1 are known below free read) (symbols_again (set_with said s.0 s.1) true ss are more plain.1 (n + 1))

-- The head.
root_again : (root : ℕ) → is_accepted root ≡ true → root ≤ 60 → root_of (codes "root" ∷ decimal root ∷ []) ≡ Ok root
root_again root accepted small = rw (number_again root (omega arith), accepted) refl

labels_again : (names : List (List ℕ)) → AreNames names → 0 < length names → labels_of (codes "labels" ∷ names) ≡ Ok names
labels_again [] are some = absurd (omega arith)
labels_again (n ∷ ns) are some =
    let few : ltb LABEL_LIMIT (length (n ∷ ns)) ≡ false = (let f = are.few in grind (arith, nat_tests)) in
    rw (are.spelled, few, are.distinct) refl

header_again : (version : ℕ) → IsVersion version → header_of (codes "category" ∷ version_word version ∷ []) ≡ Ok version
header_again version (inl e) = rw e refl
header_again version (inr e) = rw e refl

header_words : (version : ℕ) → IsVersion version → all_plain (codes "category" ∷ version_word version ∷ []) ≡ true
header_words version (inl e) = rw e refl
header_words version (inr e) = rw e refl

head_by : (a b c : ℕ) (header root_text labels : List ℕ) (rest : List Found) (count version root : ℕ) (names : List (List ℕ)) → header_of (words_of header) ≡ Ok version → root_of (words_of root_text) ≡ Ok root → labels_of (words_of labels) ≡ Ok names
    → head_of (record { ahead = Counted a header ∷ Counted b root_text ∷ Counted c labels ∷ rest; count = count }) ≡ Ok (((version, root), names), rest)
unfolding head_of front_of
head_by a b c header root_text labels rest count version root names e f g = rw (e, f, g) refl

head_again : (version root : ℕ) (names : List (List ℕ)) (rest : List Found) (a b c count : ℕ) → IsVersion version → AreNames names → 0 < length names → is_accepted root ≡ true → root ≤ 60 → all_plain (codes "root" ∷ decimal root ∷ []) ≡ true → all_plain (codes "labels" ∷ names) ≡ true
    → head_of (record { ahead = Counted a (spaced (codes "category" ∷ version_word version ∷ [])) ∷ Counted b (spaced (codes "root" ∷ decimal root ∷ [])) ∷ Counted c (spaced (codes "labels" ∷ names)) ∷ rest; count = count }) ≡ Ok (((version, root), names), rest)
head_again version root names rest a b c count is are some accepted small plain_root plain_labels =
    head_by a b c (spaced (codes "category" ∷ version_word version ∷ [])) (spaced (codes "root" ∷ decimal root ∷ [])) (spaced (codes "labels" ∷ names)) rest count version root names
    (ap header_of (words_again (codes "category" ∷ version_word version ∷ []) (header_words version is)) ∙ header_again version is)
    (ap root_of (words_again (codes "root" ∷ decimal root ∷ []) plain_root) ∙ root_again root accepted small)
    (ap labels_of (words_again (codes "labels" ∷ names) plain_labels) ∙ labels_again names are some)

-- The whole text.
category_by : (text : List ℕ) (found : List Found) (rest : List Found) (version root : ℕ) (names : List (List ℕ)) (end : SoFar) → found_in 0 (lines_of text) ≡ found
    → ((count : ℕ) → head_of (record { ahead = found; count = count }) ≡ Ok (((version, root), names), rest)) → body_of (begun version root names) rest ≡ Ok end → category_of text ≡ Ok end.said
unfolding category_of
category_by text found rest version root names end e head body = rw (e, head (0 + length (lines_of text)), body) refl

plain_each : (ls : List (List (List ℕ))) → ArePlainLines ls → AllPlain ls
plain_each [] are = tt
plain_each (ws ∷ ls) are = (are.0.plain, plain_each ls are.1)

plain_left : (ls ms : List (List (List ℕ))) → AllPlain (ls ++ ms) → AllPlain ls × AllPlain ms
plain_left [] ms all = (tt, all)
plain_left (ws ∷ ls) ms all = let rest = plain_left ls ms all.1 in ((all.0, rest.0), rest.1)

pub names_stay : (said : NamedSymbols) (ts : List VIndex) → (fused_all said ts).names ≡ said.names
names_stay said [] = refl
names_stay said (t ∷ ts) = names_stay (fused_with said t) ts

-- what is in order and spelled is read again
pub text_again : SpelledAgain
text_again version root names ts ss is are some accepted fresh_ts fresh_ss plain =
    let said = (begun version root names).said in
    let all = plain_left (map (fuse_line said) ts) (map (words_at names) ss) (plain_each (map (fuse_line said) ts ++ map (words_at names) ss) plain.1.1.1) in
    let fused = fused_all said ts in
    let same = names_stay said ts in
    let end : SoFar = record { said = set_all fused ss; has_symbols = starts false ss } in
    let after : (m : ℕ) → body_of (record { said = fused; has_symbols = false }) (counted m (map (words_at names) ss)) ≡ Ok end =
    λ m. subst (λ ns. body_of (record { said = fused; has_symbols = false }) (counted m (map (words_at ns) ss)) ≡ Ok end) same
    (symbols_again fused false ss (subst AreNames (sym same) are) fresh_ss (subst (λ ns. AllPlain (map (words_at ns) ss)) (sym same) all.1) m) in
    category_by (spelled (lines_over said ts ss)) (counted 0 (lines_over said ts ss)) (counted 3 (map (fuse_line said) ts ++ map (words_at names) ss)) version root names end
    (found_again 0 (lines_over said ts ss) plain)
    (λ count. head_again version root names (counted 3 (map (fuse_line said) ts ++ map (words_at names) ss)) 1 2 3 count is are some accepted (accepted_small root accepted) plain.1.0.plain plain.1.1.0.plain)
    (fuses_again said ts (map (words_at names) ss) end are fresh_ts all.0 after 3)
