-- Live words of the code, as the stated evaluation sees them.
use Rattle.std.specs.Prelude.{◌≡◌, ℕ, ◌<◌, List, map, length, Option, Some, None}
use Rattle.std.specs.List.{AllByRecursion}
use Rattle.program_text.specs.Letters.{gap_of}
use Rattle.program_text.specs.declared.letter.Letter.{Letter}
use Rattle.program_text.specs.declared.letter.Letter.TheVariants.{Crossing, Charge, Tested, Still}
use Rattle.word_runs.specs.Told.{Told, IsGap}
use Rattle.word_runs.specs.Runs.{Live, Test}
use Rattle.word_runs.specs.declared.live.LiveWord.{LiveWord}
use Rattle.word_runs.specs.declared.live.OutcomeTest.{OutcomeTest}

-- a live word whose state is seen so
abbrev pub live_of : {S M : Type 0} → (S → M) → LiveWord S → Live M
live_of seen l = record { word = l.word.items; state = seen l.state }

abbrev pub lives_of : {S M : Type 0} → (S → M) → List (LiveWord S) → List (Live M)
lives_of seen ls = map (live_of seen) ls

abbrev pub test_of : Option OutcomeTest → Option Test
test_of None = None
test_of (Some test) = Some (record { place = test.place; label = test.label })

-- each state is of the engine
abbrev pub AreOf : {S : Type 0} → (S → Type 0) → List (LiveWord S) → Type 0
AreOf Of live = AllByRecursion (λ l. Of l.state) live

-- each word has m places
abbrev pub AreLong : {M : Type 0} → ℕ → List (Live M) → Type 0
AreLong m live = AllByRecursion (λ l. length l.word ≡ m) live

-- each state has the shape t
abbrev pub HaveShape : {M T : Type 0} → Told M T → T → List (Live M) → Type 0
HaveShape e t live = AllByRecursion (λ l. e.shape l.state ≡ t) live

-- the place of a test is in the word
abbrev pub IsTestBelow : ℕ → Option Test → Type 0
IsTestBelow m None = Unit {0}
IsTestBelow m (Some test) = test.place < m

-- What holds of the live words between two steps: their states have one shape, and their words have m places.
pub record AreAlike {M T : Type 0} (e : Told M T) (m : ℕ) (live : List (Live M)) : Type 0 where
  pub shape : T
  pub same : HaveShape e shape live
  pub long : AreLong m live

-- the place that a letter reads or writes is in a word of m places
abbrev pub IsPlaceBelow : ℕ → Letter → Type 0
IsPlaceBelow m (Crossing k sign) = Unit {0}
IsPlaceBelow m (Charge k place) = place < m
IsPlaceBelow m (Tested k sign place label) = place < m
IsPlaceBelow m (Still k) = Unit {0}

-- a letter at a gap, whose place is in a word of m places
pub record IsFit {M T : Type 0} (e : Told M T) (m : ℕ) (l : Letter) : Type 0 where
  pub gap : IsGap e (gap_of l)
  pub place : IsPlaceBelow m l
