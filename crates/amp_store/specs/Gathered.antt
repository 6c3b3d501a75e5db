-- What is gathered key by key.
use Rattle.std.specs.Prelude.{ℕ, Bool, List, Option, Some, None, if◌then◌else◌}
use Rattle.std.specs.Str.{bytes_eq}
use Rattle.std.specs.List.{list_any}
use Rattle.ring_laws.specs.Ring.{Held}

-- a value is kept unless it is zero
abbrev pub kept_of : {E : Type 0} → Held E → E → Option E
kept_of h v = if h.is_zero v then None else Some v

-- whether a list of labels is one of these
abbrev pub among : List ℕ → List (List ℕ) → Bool
among x done = list_any (λ y. bytes_eq y x) done

-- what is there once these lists are done, of the values v
abbrev pub gathered : {E : Type 0} → Held E → (List ℕ → E) → List (List ℕ) → List ℕ → Option E
gathered h v done x = if among x done then kept_of h (v x) else None
