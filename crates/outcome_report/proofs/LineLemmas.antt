-- Words and lines of the reports, one behind the other.
use Rattle.std.proofs.Common.{◌≡◌, ℕ, ◌+◌, ◌<◌, List, [], ◌∷◌, ◌++◌, length, map, get_or, take, sym, ap, ◌∙◌, append_assoc}
use Rattle.std.specs.List.{flat_map, slice_get}
use Rattle.std.specs.Prelude.{Some}
use Rattle.std.proofs.Math.Seq.{take-length}
use Rattle.std.proofs.lemmas.Grind.{flat_map-append}
use Rattle.std.proofs.lemmas.List.{append-nil, map-append}
use Rattle.std.proofs.lemmas.Option.{slice_get-get_or}
use Rattle.line_text.specs.Spelling.{spelled}
use Rattle.line_text.specs.Writing.{spaced_on}
use Rattle.line_text.proofs.WritingLemmas.{spaced_on-append, line_more}
use Rattle.cyclo_core.specs.Ratio.{Ratio}
use Rattle.word_runs.specs.Lives.{live_of, lives_of}
use Rattle.word_runs.specs.declared.live.LiveWord.{LiveWord}
use Rattle.recouple.specs.States.{State}
use Rattle.recouple.proofs.EndLemmas.{take_one}
use Rattle.outcome_rows.specs.Rows.{rows_of}
use Rattle.outcome_rows.specs.declared.rows.Row.{Row}
use Rattle.program_text.proofs.WritingLemmas.{lines_more}
use Rattle.outcome_report.specs.Report.{row_words, total_words}
use Rattle.outcome_report.specs.TreeReport.{amp_words, head_lines, live_lines}

-- one word more
word_more : (words : List (List ℕ)) (word old mid new : List ℕ) → mid ≡ old ++ spaced_on words → new ≡ mid ++ 32 ∷ word → new ≡ old ++ spaced_on (words ++ word ∷ [])
word_more words word old mid new a b =
    b ∙ ap (λ t. t ++ 32 ∷ word) a ∙ append_assoc old (spaced_on words) (32 ∷ word)
    ∙ ap (λ t. old ++ t) (ap (λ t. spaced_on words ++ t) (sym (append-nil (32 ∷ word))) ∙ sym (spaced_on-append words (word ∷ [])))

-- a word and a number
pub total_more : (first number old one two new : List ℕ) → one ≡ old ++ first → two ≡ one ++ 32 ∷ number → new ≡ two ++ 10 ∷ [] → new ≡ old ++ spelled ((first ∷ number ∷ []) ∷ [])
total_more first number old one two new a b c = line_more first (number ∷ []) old one two new a (word_more [] number one one two (sym (append-nil one)) b) c

-- a word, labels and a number
pub amp_more : (first : List ℕ) (labels : List (List ℕ)) (number old one two three new : List ℕ) → one ≡ old ++ first → two ≡ one ++ spaced_on labels → three ≡ two ++ 32 ∷ number → new ≡ three ++ 10 ∷ []
    → new ≡ old ++ spelled ((first ∷ labels ++ number ∷ []) ∷ [])
amp_more first labels number old one two three new a b c d = line_more first (labels ++ number ∷ []) old one three new a (word_more labels number one two three b c) d

-- a word, labels, another word and a number
pub row_more : (first : List ℕ) (labels : List (List ℕ)) (word number old one two three four new : List ℕ) → one ≡ old ++ first → two ≡ one ++ spaced_on labels → three ≡ two ++ 32 ∷ word → four ≡ three ++ 32 ∷ number
    → new ≡ four ++ 10 ∷ [] → new ≡ old ++ spelled ((first ∷ labels ++ (word ∷ number ∷ [])) ∷ [])
row_more first labels word number old one two three four new a b c d e =
    line_more first ((labels ++ word ∷ []) ++ number ∷ []) old one four new a (word_more (labels ++ word ∷ []) number one three four (word_more labels word one two three b c) d) e
    ∙ ap (λ words. old ++ spelled ((first ∷ words) ∷ [])) (append_assoc labels (word ∷ []) (number ∷ []))

-- The lines of items, where one item more has its lines behind the others.
module _ {X : Type 0} (lines : List X → List (List (List ℕ))) (own : X → List (List (List ℕ))) (push : (xs : List X) (x : X) → lines (xs ++ x ∷ []) ≡ lines xs ++ own x) where
  more_at : (xs : List X) (x : X) (i : ℕ) (old mid new : List ℕ) → take (i + 1) xs ≡ take i xs ++ x ∷ [] → mid ≡ old ++ spelled (lines (take i xs)) → new ≡ mid ++ spelled (own x)
      → new ≡ old ++ spelled (lines (take (i + 1) xs))
  more_at xs x i old mid new taken a b =
      lines_more (lines (take i xs)) (own x) old mid new a b ∙ ap (λ ls. old ++ spelled ls) (sym (ap lines taken ∙ push (take i xs) x))

  item_more : (xs : List X) (d : X) (i : ℕ) (old mid new : List ℕ) → i < length xs → mid ≡ old ++ spelled (lines (take i xs)) → new ≡ mid ++ spelled (own (get_or xs i d))
      → new ≡ old ++ spelled (lines (take (i + 1) xs))
  item_more xs d i old mid new within a b = more_at xs (get_or xs i d) i old mid new (take_one xs i (get_or xs i d) (slice_get-get_or xs i d within)) a b

-- all items were taken
pub all_taken : {X : Type 0} (lines : List X → List (List (List ℕ))) (xs : List X) (i : ℕ) (old new : List ℕ) → i ≡ length xs → new ≡ old ++ spelled (lines (take i xs)) → new ≡ old ++ spelled (lines xs)
all_taken lines xs i old new all a = a ∙ ap (λ ys. old ++ spelled (lines ys)) (ap (λ n. take n xs) all ∙ take-length xs)

-- the lines of rows
abbrev pub row_lines : {R : Type 0} → List (List ℕ) → Ratio → List (Row R Ratio) → List (List (List ℕ))
row_lines names total rows = total_words total ∷ map (row_words names) (rows_of rows)

module _ {R : Type 0} (names : List (List ℕ)) (total : Ratio) where
  abbrev own_row : Row R Ratio → List (List (List ℕ))
  own_row row = row_words names (row.word.items, row.weight) ∷ []

  rows_push : (rows : List (Row R Ratio)) (row : Row R Ratio) → row_lines names total (rows ++ row ∷ []) ≡ row_lines names total rows ++ own_row row
  rows_push rows row =
      ap (λ rs. total_words total ∷ map (row_words names) rs) (map-append (λ (r : Row R Ratio). (r.word.items, r.weight)) rows (row ∷ []))
      ∙ ap (λ ls. total_words total ∷ ls) (map-append (row_words names) (rows_of rows) ((row.word.items, row.weight) ∷ []))

  pub next_row : (rows : List (Row R Ratio)) (d : Row R Ratio) (i : ℕ) (old mid new : List ℕ) → i < length rows → mid ≡ old ++ spelled (row_lines names total (take i rows))
      → new ≡ mid ++ spelled (own_row (get_or rows i d)) → new ≡ old ++ spelled (row_lines names total (take (i + 1) rows))
  next_row = item_more (row_lines names total) own_row rows_push

-- the lines of live words
abbrev pub tree_lines : {S : Type 0} → List (List ℕ) → State Ratio → (S → State Ratio) → List (LiveWord S) → List (List (List ℕ))
tree_lines names first seen ends = head_lines names first ++ flat_map (live_lines names) (lives_of seen ends)

module _ {S : Type 0} (names : List (List ℕ)) (first : State Ratio) (seen : S → State Ratio) where
  abbrev own_live : LiveWord S → List (List (List ℕ))
  own_live live = live_lines names (live_of seen live)

  lives_push : (ends : List (LiveWord S)) (live : LiveWord S) → tree_lines names first seen (ends ++ live ∷ []) ≡ tree_lines names first seen ends ++ own_live live
  lives_push ends live =
      ap (λ ls. head_lines names first ++ flat_map (live_lines names) ls) (map-append (live_of seen) ends (live ∷ []))
      ∙ ap (λ ls. head_lines names first ++ ls)
      (flat_map-append (live_lines names) (lives_of seen ends) (live_of seen live ∷ []) ∙ ap (λ ls. flat_map (live_lines names) (lives_of seen ends) ++ ls) (append-nil (own_live live)))
      ∙ sym (append_assoc (head_lines names first) (flat_map (live_lines names) (lives_of seen ends)) (own_live live))

  pub next_live : (ends : List (LiveWord S)) (d : LiveWord S) (i : ℕ) (old mid new : List ℕ) → i < length ends → mid ≡ old ++ spelled (tree_lines names first seen (take i ends))
      → new ≡ mid ++ spelled (own_live (get_or ends i d)) → new ≡ old ++ spelled (tree_lines names first seen (take (i + 1) ends))
  next_live = item_more (tree_lines names first seen) own_live lives_push

-- the lines of amplitudes
module _ (names : List (List ℕ)) where
  abbrev Amp : Type 0
  Amp = List ℕ × Ratio

  amps_push : (amps : List Amp) (amp : Amp) → map (amp_words names) (amps ++ amp ∷ []) ≡ map (amp_words names) amps ++ amp_words names amp ∷ []
  amps_push amps amp = map-append (amp_words names) amps (amp ∷ [])

  pub next_amp : (amps : List Amp) (amp : Amp) (i : ℕ) (old mid new : List ℕ) → slice_get amps i ≡ Some amp → mid ≡ old ++ spelled (map (amp_words names) (take i amps))
      → new ≡ mid ++ spelled (amp_words names amp ∷ []) → new ≡ old ++ spelled (map (amp_words names) (take (i + 1) amps))
  next_amp amps amp i old mid new there = more_at (map (amp_words names)) (λ a. amp_words names a ∷ []) amps_push amps amp i old mid new (take_one amps i amp there)
