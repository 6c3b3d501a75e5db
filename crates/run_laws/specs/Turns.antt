-- Turns: sites take their commands one after another, in the order of a schedule. Generic in what a command is.
use Rattle.std.specs.Prelude.{◌≡◌, ℕ, zero, suc, ◌==◌, List, [], ◌∷◌, ◌++◌, Option, Some, None, slice_index_or, length}
use Rattle.std.specs.List.{count_by}
use Rattle.std.specs.Option.{option_to_list}

-- all commands of the sites, in the order of the text
abbrev pub in_text : {A : Type 0} → List (List A) → List A
in_text [] = []
in_text (cs ∷ sites) = cs ++ in_text sites

-- the next command of site i, counted from 0
abbrev pub next_of : {A : Type 0} → ℕ → List (List A) → Option A
next_of i [] = None
next_of zero ([] ∷ sites) = None
next_of zero ((a ∷ cs) ∷ sites) = Some a
next_of (suc i) (cs ∷ sites) = next_of i sites

-- what the sites have left after a turn of site i
abbrev pub after_turn : {A : Type 0} → ℕ → List (List A) → List (List A)
after_turn i [] = []
after_turn zero ([] ∷ sites) = [] ∷ sites
after_turn zero ((a ∷ cs) ∷ sites) = cs ∷ sites
after_turn (suc i) (cs ∷ sites) = cs ∷ after_turn i sites

-- the commands in the order of the turns
abbrev pub turns : {A : Type 0} → List (List A) → List ℕ → List A
turns sites [] = []
turns sites (i ∷ schedule) = option_to_list (next_of i sites) ++ turns (after_turn i sites) schedule

-- A schedule is legal where each site stands in it as often as it has commands, and no other site does.
abbrev pub IsSchedule : {A : Type 0} → List (List A) → List ℕ → Type 0
IsSchedule sites schedule = (i : ℕ) → count_by (λ j. j == i) schedule ≡ length (slice_index_or sites i [])

-- n times the same number
abbrev pub times : ℕ → ℕ → List ℕ
times zero i = []
times (suc n) i = i ∷ times n i

-- all turns of the first site, which has the number i, then of the second, and so on
abbrev pub text_order_from : {A : Type 0} → ℕ → List (List A) → List ℕ
text_order_from i [] = []
text_order_from i (cs ∷ sites) = times (length cs) i ++ text_order_from (suc i) sites

-- text order: all turns of site 0, then of site 1, and so on
abbrev pub text_order : {A : Type 0} → List (List A) → List ℕ
text_order sites = text_order_from 0 sites
