-- What holds of every legal schedule.
use Rattle.std.specs.Prelude.{◌≡◌, ℕ, ◌+◌, ◌<◌, ◌≤◌, ◌⊎◌, Bool, true, List, [], ◌∷◌, Ok}
use Rattle.std.specs.List.{AllByRecursion}
use Rattle.program_text.specs.Letters.{gap_of, letters, measurements}
use Rattle.program_text.specs.declared.plan.Command.{Command}
use Rattle.program_text.specs.declared.letter.Letter.{Letter}
use Rattle.comb_laws.specs.Words.{Acts, word_state}
use Rattle.comb_laws.specs.declared.operator.Operator.{Operator}
use Rattle.word_runs.specs.Told.{Told}
use Rattle.word_runs.specs.Runs.{Live, run_of, start_word}
use Rattle.run_laws.specs.Timely.{is_timely, MeasureEach}
use Rattle.run_laws.specs.Turns.{in_text, turns, IsSchedule, text_order}
use Rattle.run_laws.specs.Meaning.{AreEnds}

-- the letters of each site, where the places of measurements count on from site to site
abbrev pub site_letters : ℕ → List (List Command) → List (List Letter)
site_letters p [] = []
site_letters p (cs ∷ sites) = letters p cs ∷ site_letters (p + measurements cs) sites

-- The first and the last strand of a site, counted from 1.
pub record Range : Type 0 where
  pub first : ℕ
  pub last : ℕ

-- no strand in common
abbrev pub Disjoint : Range → Range → Type 0
Disjoint r s = (r.last < s.first) ⊎ (s.last < r.first)

-- the letter's gap is between two strands of the site, which are some of n
pub record IsWithin (n : ℕ) (r : Range) (l : Letter) : Type 0 where
  pub above : 0 < gap_of l
  pub low : r.first ≤ gap_of l
  pub high : gap_of l < r.last
  pub below : gap_of l < n

-- each site's letters are at its gaps, and no two sites have a strand in common
abbrev pub AreApart : ℕ → List Range → List (List Letter) → Type 0
AreApart n [] [] = Unit {0}
AreApart n (r ∷ ranges) (ls ∷ sites) = AllByRecursion (IsWithin n r) ls × AllByRecursion (Disjoint r) ranges × AreApart n ranges sites
AreApart n [] (ls ∷ sites) = ⊥
AreApart n (r ∷ ranges) [] = ⊥

-- Far commutation: operators at gaps of n strands with another gap between them commute on good states, and leave good
-- states.
pub record CommuteFar {S : Type 0} (n : ℕ) (act : Acts S) (Good : S → Type 0) : Type 0 where
  pub keeps : (k : ℕ) (o : Operator) (s : S) → 0 < k → k < n → Good s → Good (act k o s)
  pub far : (i j : ℕ) (first second : Operator) (s : S) → 0 < i → i + 1 < j → j < n → Good s
      → act j second (act i first s) ≡ act i first (act j second s)

-- On each word the turns of any legal schedule of sites that are apart do what the letters do in the order of the text.
abbrev pub EverySchedule : {S : Type 0} → ℕ → Acts S → (S → Type 0) → Type 0
EverySchedule {S} n act Good =
    (ranges : List Range) (sites : List (List Letter)) (schedule : List ℕ) (word : List ℕ) (s : S)
    → AreApart n ranges sites → IsSchedule sites schedule → Good s
    → word_state act word (turns sites schedule) s ≡ word_state act word (in_text sites) s

-- Text order is a legal schedule, and its turns are the letters of all commands in the order of the text.
abbrev pub TextIsSchedule : Type 0
TextIsSchedule =
    (sites : List (List Command))
    → IsSchedule (site_letters 0 sites) (text_order (site_letters 0 sites))
    × (turns (site_letters 0 sites) (text_order (site_letters 0 sites)) ≡ letters 0 (in_text sites))

-- The letters of a text measure each of its places once, and no other.
abbrev pub TextMeasuresEach : Type 0
TextMeasuresEach = (commands : List Command) → MeasureEach (measurements commands) (letters 0 commands)

-- So do the turns of every legal schedule.
abbrev pub SchedulesMeasureEach : Type 0
SchedulesMeasureEach =
    (sites : List (List Command)) (schedule : List ℕ) → IsSchedule (site_letters 0 sites) schedule
    → MeasureEach (measurements (in_text sites)) (turns (site_letters 0 sites) schedule)

-- Whatever the schedule, the live words at the end are those of the letters in the order of the text.
abbrev pub ScheduleEnds : {M T V : Type 0} → Told M T → ℕ → Acts V → (V → Type 0) → (V → Bool) → (M → V → Type 0) → Type 0
ScheduleEnds {M} {T} {V} e count act Good nought Stands =
    (ranges : List Range) (sites : List (List Command)) (schedule : List ℕ) (s : M) (v : V) (live : List (Live M))
    → AreApart e.strands ranges (site_letters 0 sites) → IsSchedule (site_letters 0 sites) schedule → is_timely [] (turns (site_letters 0 sites) schedule) ≡ true
    → Good v → Stands s v
    → run_of e 1 (turns (site_letters 0 sites) schedule) (start_word (measurements (in_text sites)) s) ≡ Ok live
    → AreEnds count (measurements (in_text sites)) act Good nought Stands (letters 0 (in_text sites)) v live
