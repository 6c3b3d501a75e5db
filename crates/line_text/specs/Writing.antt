-- What writers append.
use Rattle.std.specs.Prelude.{◌≡◌, ℕ, List, [], ◌∷◌, ◌++◌, take, length, Result, Ok, Err}

-- words, each behind a space
abbrev pub spaced_on : List (List ℕ) → List ℕ
spaced_on [] = []
spaced_on (word ∷ words) = 32 ∷ word ++ spaced_on words

-- what is there when a writer returns: the old bytes and this text behind them, or the old bytes alone where it was refused
abbrev pub Appends : {A E : Type 0} → Result A E → List ℕ → List ℕ → List ℕ → Type 0
Appends (Ok _) old new text = new ≡ old ++ text
Appends (Err _) old new text = new ≡ old

-- The same of a part of a writer: where it was refused, the old bytes are still in front.
abbrev pub Extends : {A E : Type 0} → Result A E → List ℕ → List ℕ → List ℕ → Type 0
Extends (Ok _) old new text = new ≡ old ++ text
Extends (Err _) old new text = take (length old) new ≡ old

-- what is left where a writer cuts back what a refused part has written
abbrev pub CutsBack : {A E : Type 0} → Result A E → ℕ → List ℕ → List ℕ → Type 0
CutsBack (Ok _) begun old new = new ≡ old
CutsBack (Err _) begun old new = new ≡ take begun old
