-- Which outcomes letters make and read, and when.
use Rattle.std.specs.Prelude.{◌≡◌, ℕ, ◌==◌, Bool, true, false, ◌&&◌, nat_lt, List, [], ◌∷◌, Option, Some, None}
use Rattle.std.specs.List.{list_any}
use Rattle.program_text.specs.declared.letter.Letter.{Letter}
use Rattle.program_text.specs.declared.letter.Letter.TheVariants.{Crossing, Charge, Tested, Still}

-- whether the place is one of those that are measured
abbrev pub is_known : List ℕ → ℕ → Bool
is_known known place = list_any (λ p. p == place) known

-- the place that a letter measures, if it does
abbrev pub measured_at : Letter → Option ℕ
measured_at (Crossing k sign) = None
measured_at (Charge k place) = Some place
measured_at (Tested k sign place label) = None
measured_at (Still k) = None

-- whether each measurement comes before the letters that test its outcome, where these places are measured before
abbrev pub is_timely : List ℕ → List Letter → Bool
is_timely known [] = true
is_timely known (Crossing k sign ∷ ls) = is_timely known ls
is_timely known (Charge k place ∷ ls) = is_timely (place ∷ known) ls
is_timely known (Tested k sign place label ∷ ls) = is_known known place && is_timely known ls
is_timely known (Still k ∷ ls) = is_timely known ls

-- the places that are measured after these letters
abbrev pub known_after : List ℕ → List Letter → List ℕ
known_after known [] = known
known_after known (Crossing k sign ∷ ls) = known_after known ls
known_after known (Charge k place ∷ ls) = known_after (place ∷ known) ls
known_after known (Tested k sign place label ∷ ls) = known_after known ls
known_after known (Still k ∷ ls) = known_after known ls

-- no place is measured twice
abbrev pub IsFresh : List ℕ → List Letter → Type 0
IsFresh known [] = Unit {0}
IsFresh known (Crossing k sign ∷ ls) = IsFresh known ls
IsFresh known (Charge k place ∷ ls) = (is_known known place ≡ false) × IsFresh (place ∷ known) ls
IsFresh known (Tested k sign place label ∷ ls) = IsFresh known ls
IsFresh known (Still k ∷ ls) = IsFresh known ls

-- Letters measure each of m places once, and no other.
pub record MeasureEach (m : ℕ) (ls : List Letter) : Type 0 where
  pub once : IsFresh [] ls
  pub places : (place : ℕ) → is_known (known_after [] ls) place ≡ nat_lt place m
