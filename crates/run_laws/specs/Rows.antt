-- Words in the order of lists of labels, and the rows of a run.
use Rattle.std.specs.Prelude.{◌≡◌, ℕ, Bool, true, false, not, List, [], map, Option, Some, None, Ok, IsPermutation, IsSortedByKey}
use Rattle.std.specs.List.{AllByRecursion, filter}
use Rattle.std.specs.List.Sorted.{IsStrictlySortedBy}
use Rattle.std.specs.Ordering.{nat_cmp}
use Rattle.std.specs.declared.cmp.Ordering.{Ordering}
use Rattle.std.specs.Cmp.Lexicographic.{slice_cmp}
use Rattle.program_text.specs.Letters.{gap_of, letters, measurements}
use Rattle.program_text.specs.declared.plan.Command.{Command}
use Rattle.program_text.specs.declared.letter.Letter.{Letter}
use Rattle.comb_laws.specs.Plans.{words}
use Rattle.comb_laws.specs.Words.{Acts, word_state}
use Rattle.word_runs.specs.Told.{Told, IsGap}
use Rattle.word_runs.specs.Runs.{Live, each, run_of, start_word}
use Rattle.run_laws.specs.Meaning.{IsIn, IsFull, words_of, StandsAlive, AreEnds}
use Rattle.run_laws.specs.Schedules.{Range, AreApart, site_letters}
use Rattle.run_laws.specs.Timely.{is_timely}
use Rattle.run_laws.specs.Turns.{in_text, turns, IsSchedule}

-- the order of lists of labels
abbrev pub word_cmp : List ℕ → List ℕ → Ordering
word_cmp = slice_cmp nat_cmp

-- All words of m labels stand in that order, each once, and they are those of m labels below the count.
pub record AreAllWords (count m : ℕ) : Type 0 where
  pub rising : IsStrictlySortedBy word_cmp (words count m)
  pub full : (w : List ℕ) → IsIn w (words count m) → IsFull count m w
  pub all : (w : List ℕ) → IsFull count m w → IsIn w (words count m)

abbrev pub WordsAreAll : Type 0
WordsAreAll = (count m : ℕ) → AreAllWords count m

-- the words whose vector under the letters isn't zero, in the order of lists of labels
abbrev pub living_words : {V : Type 0} → ℕ → ℕ → Acts V → (V → Bool) → List Letter → V → List (List ℕ)
living_words count m act nought ls v = filter (λ w. not (nought (word_state act w ls v))) (words count m)

-- Live words that are sorted by their labels are what was live, in the order of lists of labels.
abbrev pub SortedEnds : {M V : Type 0} → ℕ → Acts V → (V → Type 0) → (V → Bool) → (M → V → Type 0) → Type 0
SortedEnds {M} {V} count act Good nought Stands =
    (m : ℕ) (ls : List Letter) (v : V) (live sorted : List (Live M))
    → AreEnds count m act Good nought Stands ls v live → IsPermutation live sorted → IsSortedByKey (λ l. l.word) word_cmp sorted
    → AreEnds count m act Good nought Stands ls v sorted × IsStrictlySortedBy word_cmp (words_of sorted)

-- The parts of a state come in label order.
abbrev pub HasRisingParts : {M T : Type 0} → Told M T → Type 0
HasRisingParts {M} {T} e = (k : ℕ) (s : M) (ps : List (ℕ × M)) → e.parts k s ≡ Some ps → IsStrictlySortedBy nat_cmp (map (λ part. part.0) ps)

-- Then live words are made in the order of lists of labels, where the turns are those of the text.
abbrev pub TextRises : {M T : Type 0} → Told M T → Type 0
TextRises {M} {T} e =
    HasRisingParts e → (commands : List Command) (s : M) (live : List (Live M))
    → run_of e 1 (letters 0 commands) (start_word (measurements commands) s) ≡ Ok live → IsStrictlySortedBy word_cmp (words_of live)

-- Where their vectors aren't zero, they are a filter of all words in order.
abbrev pub EndsInOrder : {M V : Type 0} → ℕ → Acts V → (V → Type 0) → (V → Bool) → (M → V → Type 0) → Type 0
EndsInOrder {M} {V} count act Good nought Stands =
    (m : ℕ) (ls : List Letter) (v : V) (live : List (Live M))
    → AreEnds count m act Good nought (StandsAlive nought Stands) ls v live → IsStrictlySortedBy word_cmp (words_of live)
    → words_of live ≡ living_words count m act nought ls v

-- Where the engine makes nothing zero, the live words in order are exactly the words whose vector isn't zero: in the order
-- of the text,
abbrev pub TextWords : {M T V : Type 0} → Told M T → ℕ → Acts V → (V → Type 0) → (V → Bool) → (M → V → Type 0) → Type 0
TextWords {M} {T} {V} e count act Good nought Stands =
    (commands : List Command) (s : M) (v : V) (live sorted : List (Live M))
    → AllByRecursion (λ l. IsGap e (gap_of l)) (letters 0 commands) → is_timely [] (letters 0 commands) ≡ true
    → Good v → Stands s v → nought v ≡ false
    → run_of e 1 (letters 0 commands) (start_word (measurements commands) s) ≡ Ok live → IsPermutation live sorted → IsSortedByKey (λ l. l.word) word_cmp sorted
    → words_of sorted ≡ living_words count (measurements commands) act nought (letters 0 commands) v

-- and under every legal schedule.
abbrev pub ScheduleWords : {M T V : Type 0} → Told M T → ℕ → Acts V → (V → Type 0) → (V → Bool) → (M → V → Type 0) → Type 0
ScheduleWords {M} {T} {V} e count act Good nought Stands =
    (ranges : List Range) (sites : List (List Command)) (schedule : List ℕ) (s : M) (v : V) (live sorted : List (Live M))
    → AreApart e.strands ranges (site_letters 0 sites) → IsSchedule (site_letters 0 sites) schedule → is_timely [] (turns (site_letters 0 sites) schedule) ≡ true
    → Good v → Stands s v → nought v ≡ false
    → run_of e 1 (turns (site_letters 0 sites) schedule) (start_word (measurements (in_text sites)) s) ≡ Ok live → IsPermutation live sorted → IsSortedByKey (λ l. l.word) word_cmp sorted
    → words_of sorted ≡ living_words count (measurements (in_text sites)) act nought (letters 0 (in_text sites)) v

-- What weighing owes: the weight of a state is that of the vector that it stands for, where it fits, and zero has the
-- weight zero.
pub record IsWeighing {M V W : Type 0} (Good : V → Type 0) (nought : V → Bool) (Stands : M → V → Type 0) (weigh : M → Option W) (weight : V → W) (zero : W → Bool) : Type 0 where
  pub weighs : (s : M) (v : V) (x : W) → Good v → Stands s v → weigh s ≡ Some x → x ≡ weight v
  pub nothing : (v : V) → Good v → nought v ≡ true → zero (weight v) ≡ true

-- those whose weight isn't zero
abbrev pub rows_among : {W : Type 0} → (W → Bool) → List (List ℕ × W) → List (List ℕ × W)
rows_among zero rows = filter (λ row. not (zero row.1)) rows

-- The rows of a plan: the words whose vector has a weight that isn't zero, each with it, in the order of lists of labels.
abbrev pub rows_of_plan : {V W : Type 0} → ℕ → ℕ → Acts V → (V → W) → (W → Bool) → List Letter → V → List (List ℕ × W)
rows_of_plan count m act weight zero ls v = rows_among zero (map (λ w. (w, weight (word_state act w ls v))) (words count m))

-- a live word with its weight, if that fits
abbrev pub with_weight : {M W : Type 0} → Live M → Option W → Option (List ℕ × W)
with_weight l None = None
with_weight l (Some x) = Some (l.word, x)

-- live words with their weights, if all fit
abbrev pub weighed : {M W : Type 0} → (M → Option W) → List (Live M) → Option (List (List ℕ × W))
weighed weigh live = each (λ l. with_weight l (weigh l.state)) live

-- Where live words stand in order, those whose weight isn't zero are the rows of the plan.
abbrev pub RowsInOrder : {M V W : Type 0} → ℕ → Acts V → (V → Type 0) → (V → Bool) → (M → V → Type 0) → (M → Option W) → (V → W) → (W → Bool) → Type 0
RowsInOrder {M} {V} {W} count act Good nought Stands weigh weight zero =
    (m : ℕ) (ls : List Letter) (v : V) (live : List (Live M)) (all : List (List ℕ × W))
    → AreEnds count m act Good nought Stands ls v live → IsStrictlySortedBy word_cmp (words_of live) → weighed weigh live ≡ Some all
    → rows_among zero all ≡ rows_of_plan count m act weight zero ls v

-- The rows of a run that ended with these live words: they are sorted by their labels, and those whose weight isn't zero
-- are kept.
pub record AreRows {M W : Type 0} (weigh : M → Option W) (zero : W → Bool) (live : List (Live M)) (rows : List (List ℕ × W)) : Type 0 where
  pub sorted : List (Live M)
  pub permutation : IsPermutation live sorted
  pub order : IsSortedByKey (λ l. l.word) word_cmp sorted
  pub all : List (List ℕ × W)
  pub fit : weighed weigh sorted ≡ Some all
  pub are : rows ≡ rows_among zero all

-- So these are the rows of the plan.
abbrev pub RowsOfEnds : {M V W : Type 0} → ℕ → Acts V → (V → Type 0) → (V → Bool) → (M → V → Type 0) → (M → Option W) → (V → W) → (W → Bool) → Type 0
RowsOfEnds {M} {V} {W} count act Good nought Stands weigh weight zero =
    (m : ℕ) (ls : List Letter) (v : V) (live : List (Live M)) (rows : List (List ℕ × W))
    → AreEnds count m act Good nought Stands ls v live → AreRows weigh zero live rows → rows ≡ rows_of_plan count m act weight zero ls v

-- In the order of the text the rows of a run are those of the plan,
abbrev pub TextRows : {M T V W : Type 0} → Told M T → ℕ → Acts V → (V → Type 0) → (M → V → Type 0) → (M → Option W) → (V → W) → (W → Bool) → Type 0
TextRows {M} {T} {V} {W} e count act Good Stands weigh weight zero =
    (commands : List Command) (s : M) (v : V) (live : List (Live M)) (rows : List (List ℕ × W))
    → AllByRecursion (λ l. IsGap e (gap_of l)) (letters 0 commands) → is_timely [] (letters 0 commands) ≡ true
    → Good v → Stands s v
    → run_of e 1 (letters 0 commands) (start_word (measurements commands) s) ≡ Ok live → AreRows weigh zero live rows
    → rows ≡ rows_of_plan count (measurements commands) act weight zero (letters 0 commands) v

-- and so they are under every legal schedule.
abbrev pub ScheduleRows : {M T V W : Type 0} → Told M T → ℕ → Acts V → (V → Type 0) → (M → V → Type 0) → (M → Option W) → (V → W) → (W → Bool) → Type 0
ScheduleRows {M} {T} {V} {W} e count act Good Stands weigh weight zero =
    (ranges : List Range) (sites : List (List Command)) (schedule : List ℕ) (s : M) (v : V) (live : List (Live M)) (rows : List (List ℕ × W))
    → AreApart e.strands ranges (site_letters 0 sites) → IsSchedule (site_letters 0 sites) schedule → is_timely [] (turns (site_letters 0 sites) schedule) ≡ true
    → Good v → Stands s v
    → run_of e 1 (turns (site_letters 0 sites) schedule) (start_word (measurements (in_text sites)) s) ≡ Ok live → AreRows weigh zero live rows
    → rows ≡ rows_of_plan count (measurements (in_text sites)) act weight zero (letters 0 (in_text sites)) v
