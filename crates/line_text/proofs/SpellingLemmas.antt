-- What is spelled is found again.
use Rattle.std.proofs.Common.{◌≡◌, ℕ, suc, ◌+◌, ◌<◌, ◌≤◌, List, [], ◌∷◌, ◌++◌, Bool, length, refl, sym, ap, ◌∙◌, arith, true, false, ◌&&◌, ltb, if◌then◌else◌, Option, None}
use Rattle.std.specs.List.{onto_first}
use Rattle.std.proofs.lemmas.Bool.Decides.{nat_tests}
use Rattle.std.proofs.lemmas.List.{append-nil}
use Rattle.line_text.specs.declared.line.TheConstants.{LINE_LIMIT}
use Rattle.line_text.specs.Text.{is_byte, parts_of, lines_of, words_of, not_empty, all_printable, first_cause, is_skipped, skips, found_in, found_by, Counted}
use Rattle.line_text.specs.declared.fault.LineCause.{LineCause}
use Rattle.line_text.specs.Spelling.{spaced, spelled, plain_bytes, is_plain_word, all_plain, ArePlainLines, counted}

abbrev lacks : ℕ → List ℕ → Bool
lacks at [] = true
lacks at (c ∷ cs) = if is_byte at c then false else lacks at cs

part_ends : (at : ℕ) (part rest : List ℕ) → lacks at part ≡ true → parts_of at (part ++ at ∷ rest) ≡ part ∷ parts_of at rest
part_ends at [] rest none = let same : is_byte at at ≡ true = grind (arith, nat_tests) in rw same refl
part_ends at (c ∷ cs) rest none = by_test (is_byte at c) (part_ends at cs rest) none
  where
    by_test : (b : Bool) → (lacks at cs ≡ true → parts_of at (cs ++ at ∷ rest) ≡ cs ∷ parts_of at rest) → (if b then false else lacks at cs) ≡ true
        → (if b then [] ∷ parts_of at (cs ++ at ∷ rest) else onto_first c (parts_of at (cs ++ at ∷ rest))) ≡ (c ∷ cs) ∷ parts_of at rest
    by_test true later none = absurd (cc)
    by_test false later none = ap (onto_first c) (later none)

part_whole : (at c : ℕ) (cs : List ℕ) → lacks at (c ∷ cs) ≡ true → parts_of at (c ∷ cs) ≡ (c ∷ cs) ∷ []
part_whole at c [] none = by_test (is_byte at c) none
  where
    by_test : (b : Bool) → (if b then false else true) ≡ true → (if b then [] ∷ [] else (c ∷ []) ∷ []) ≡ (c ∷ []) ∷ []
    by_test true none = absurd (cc)
    by_test false none = refl
part_whole at c (d ∷ cs) none = by_test (is_byte at c) (part_whole at d cs) none
  where
    by_test : (b : Bool) → (lacks at (d ∷ cs) ≡ true → parts_of at (d ∷ cs) ≡ (d ∷ cs) ∷ []) → (if b then false else lacks at (d ∷ cs)) ≡ true
        → (if b then [] ∷ parts_of at (d ∷ cs) else onto_first c (parts_of at (d ∷ cs))) ≡ (c ∷ d ∷ cs) ∷ []
    by_test true later none = absurd (cc)
    by_test false later none = ap (onto_first c) (later none)

-- what plain bytes lack, and that they are printable
plain_head : (c : ℕ) (cs : List ℕ) → plain_bytes (c ∷ cs) ≡ true → (33 ≤ c) × (c ≤ 126) × (plain_bytes cs ≡ true)
plain_head c cs plain = by_tests (ltb c 33) (ltb 126 c) refl refl plain
  where
    by_tests : (low high : Bool) → ltb c 33 ≡ low → ltb 126 c ≡ high → (if low then false else (if high then false else plain_bytes cs)) ≡ true → (33 ≤ c) × (c ≤ 126) × (plain_bytes cs ≡ true)
    by_tests true high e f plain = absurd (cc)
    by_tests false true e f plain = absurd (cc)
    by_tests false false e f plain = (grind (arith, nat_tests), grind (arith, nat_tests), plain)

plain_lacks : (at : ℕ) → at < 33 → (cs : List ℕ) → plain_bytes cs ≡ true → lacks at cs ≡ true
plain_lacks at low [] plain = refl
plain_lacks at low (c ∷ cs) plain =
    let head = plain_head c cs plain in
    let other : is_byte at c ≡ false = grind (arith, nat_tests) in
    rw other (plain_lacks at low cs head.2)

lacks_append : (at c : ℕ) (xs ys : List ℕ) → lacks at xs ≡ true → is_byte at c ≡ false → lacks at ys ≡ true → lacks at (xs ++ c ∷ ys) ≡ true
lacks_append at c [] ys none other later = rw other later
lacks_append at c (x ∷ xs) ys none other later = by_test (is_byte at x) (lacks_append at c xs ys) none
  where
    by_test : (b : Bool) → (lacks at xs ≡ true → is_byte at c ≡ false → lacks at ys ≡ true → lacks at (xs ++ c ∷ ys) ≡ true) → (if b then false else lacks at xs) ≡ true → (if b then false else lacks at (xs ++ c ∷ ys)) ≡ true
    by_test true rest none = absurd (cc)
    by_test false rest none = rest none other later

printable_append : (xs ys : List ℕ) → plain_bytes xs ≡ true → all_printable ys ≡ true → all_printable (xs ++ ys) ≡ true
printable_append [] ys plain later = later
printable_append (c ∷ cs) ys plain later =
    let head = plain_head c cs plain in
    let low : ltb c 32 ≡ false = grind (arith, nat_tests) in
    let high : ltb 126 c ≡ false = grind (arith, nat_tests) in
    rw (low, high) (printable_append cs ys head.2 later)

word_plain : (word : List ℕ) → is_plain_word word ≡ true → plain_bytes word ≡ true
word_plain [] plain = absurd (cc)
word_plain (c ∷ cs) plain = plain

all_head : (word : List ℕ) (words : List (List ℕ)) → all_plain (word ∷ words) ≡ true → (is_plain_word word ≡ true) × (all_plain words ≡ true)
all_head word words all = by_tests (is_plain_word word) all
  where
    by_tests : (b : Bool) → (b && all_plain words) ≡ true → (b ≡ true) × (all_plain words ≡ true)
    by_tests true all = (refl, all)
    by_tests false all = absurd (cc)

no_end : (words : List (List ℕ)) → all_plain words ≡ true → lacks 10 (spaced words) ≡ true
no_end [] all = refl
no_end (w ∷ []) all = plain_lacks 10 (omega arith) w (word_plain w (all_head w [] all).0)
no_end (w ∷ v ∷ ws) all =
    let head = all_head w (v ∷ ws) all in
    lacks_append 10 32 w (spaced (v ∷ ws)) (plain_lacks 10 (omega arith) w (word_plain w head.0)) refl (no_end (v ∷ ws) head.1)

printable : (words : List (List ℕ)) → all_plain words ≡ true → all_printable (spaced words) ≡ true
printable [] all = refl
printable (w ∷ []) all = ap all_printable (sym (append-nil w)) ∙ printable_append w [] (word_plain w (all_head w [] all).0) refl
printable (w ∷ v ∷ ws) all =
    let head = all_head w (v ∷ ws) all in
    printable_append w (32 ∷ spaced (v ∷ ws)) (word_plain w head.0) (printable (v ∷ ws) head.1)

pub words_again : (words : List (List ℕ)) → all_plain words ≡ true → words_of (spaced words) ≡ words
words_again [] all = refl
words_again ([] ∷ ws) all = absurd (cc)
words_again ((c ∷ cs) ∷ []) all = ap not_empty (part_whole 32 c cs (plain_lacks 32 (omega arith) (c ∷ cs) (all_head (c ∷ cs) [] all).0))
words_again ((c ∷ cs) ∷ v ∷ ws) all =
    let head = all_head (c ∷ cs) (v ∷ ws) all in
    ap not_empty (part_ends 32 (c ∷ cs) (spaced (v ∷ ws)) (plain_lacks 32 (omega arith) (c ∷ cs) head.0)) ∙ ap (λ ns. (c ∷ cs) ∷ ns) (words_again (v ∷ ws) head.1)

-- lines that are spelled are found, each with its number
pub found_again : (passed : ℕ) (lines : List (List (List ℕ))) → ArePlainLines lines → found_in passed (lines_of (spelled lines)) ≡ counted passed lines
found_again passed [] are = refl
found_again passed (ws ∷ ls) are =
    let line = are.0 in
    let split : lines_of (spelled (ws ∷ ls)) ≡ spaced ws ∷ lines_of (spelled ls) = part_ends 10 (spaced ws) (spelled ls) (no_end ws line.plain) in
    let long : ltb LINE_LIMIT (length (spaced ws)) ≡ false = grind (arith, nat_tests) in
    let cause : first_cause (spaced ws) ≡ None = rw (long, printable ws line.plain) refl in
    let skipped : is_skipped (spaced ws) ≡ false = ap skips (words_again ws line.plain) ∙ line.counts in
    ap (found_in passed) split
    ∙ ap (λ (o : Option LineCause). found_by (passed + 1) (spaced ws) o (is_skipped (spaced ws)) (found_in (passed + 1) (lines_of (spelled ls)))) cause
    ∙ ap (λ (b : Bool). found_by (passed + 1) (spaced ws) None b (found_in (passed + 1) (lines_of (spelled ls)))) skipped
    ∙ ap (λ fs. Counted (passed + 1) (spaced ws) ∷ fs) (found_again (passed + 1) ls are.1)

pub lines_again : (lines : List (List (List ℕ))) → ArePlainLines lines → length (lines_of (spelled lines)) ≡ length lines
lines_again [] are = refl
lines_again (ws ∷ ls) are = ap length (part_ends 10 (spaced ws) (spelled ls) (no_end ws are.0.plain)) ∙ ap suc (lines_again ls are.1)
