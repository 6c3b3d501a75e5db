-- The first fault in the order of the labels.
use Rattle.std.specs.Prelude.{◌≡◌, ℕ, zero, suc, ◌+◌, Option, None, Some, Result, Ok, Err}
use Rattle.std.specs.Option.{option_or}

-- the first fault at the n labels from t on
abbrev pub first_from : {E : Type 0} → (ℕ → Option E) → ℕ → ℕ → Option E
first_from fault t zero = None
first_from fault t (suc n) = option_or (fault t) (first_from fault (t + 1) n)

-- the first fault at the labels below n
abbrev pub first_below : {E : Type 0} → ℕ → (ℕ → Option E) → Option E
first_below n fault = first_from fault 0 n

-- what a check answers: the fault that is stated, or none
abbrev pub Answers : {A E : Type 0} → Result A E → Option E → Type 0
Answers (Ok a) stated = stated ≡ None
Answers (Err e) stated = stated ≡ Some e
