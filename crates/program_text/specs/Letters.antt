-- Letters: what each command does to the vector of a word of outcomes. The outcome of a measurement stands in the word
-- at the measurement's place, so a letter says by itself which outcome it reads, whatever the order of the turns.
use Rattle.std.specs.Prelude.{ℕ, suc, ◌+◌, ◌<◌, List, [], ◌∷◌}
use Rattle.program_text.specs.declared.plan.Command.{Command}
use Rattle.program_text.specs.declared.plan.Command.TheVariants.{Braid, Raise, Measure, BraidWhen}
use Rattle.program_text.specs.declared.letter.Letter.{Letter}
use Rattle.program_text.specs.declared.letter.Letter.TheVariants.{Crossing, Charge, Tested, Still}

-- the gap of a letter
abbrev pub gap_of : Letter → ℕ
gap_of (Crossing k sign) = k
gap_of (Charge k place) = k
gap_of (Tested k sign place label) = k
gap_of (Still k) = k

-- the gap of a command
abbrev pub gap_in : Command → ℕ
gap_in (Braid k sign) = k
gap_in (Raise k) = k
gap_in (Measure k) = k
gap_in (BraidWhen k sign place label) = k

-- how many outcomes a command has: one for a measurement
abbrev pub outcomes_of : Command → ℕ
outcomes_of (Braid k sign) = 0
outcomes_of (Raise k) = 0
outcomes_of (Measure k) = 1
outcomes_of (BraidWhen k sign place label) = 0

-- how many measurements there are
abbrev pub measurements : List Command → ℕ
measurements [] = 0
measurements (Braid k sign ∷ cs) = measurements cs
measurements (Raise k ∷ cs) = measurements cs
measurements (Measure k ∷ cs) = suc (measurements cs)
measurements (BraidWhen k sign place label ∷ cs) = measurements cs

-- the letter of a command before which there are p measurements in the text
abbrev pub letter_at : ℕ → Command → Letter
letter_at p (Braid k sign) = Crossing k sign
letter_at p (Raise k) = Still k
letter_at p (Measure k) = Charge k p
letter_at p (BraidWhen k sign place label) = Tested k sign place label

-- a test speaks of one of so many measurements
abbrev pub IsTestOf : ℕ → Command → Type 0
IsTestOf m (Braid k sign) = Unit {0}
IsTestOf m (Raise k) = Unit {0}
IsTestOf m (Measure k) = Unit {0}
IsTestOf m (BraidWhen k sign place label) = place < m

-- the letters of commands whose first measurement has the place p
abbrev pub letters : ℕ → List Command → List Letter
letters p [] = []
letters p (c ∷ cs) = letter_at p c ∷ letters (p + outcomes_of c) cs
