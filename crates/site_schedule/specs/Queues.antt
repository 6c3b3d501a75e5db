-- Queues: what the sites have left.
use Rattle.std.specs.Prelude.{◌≡◌, ℕ, ◌+◌, List, [], ◌∷◌, Bool, false, Option, Some, None, map, get_or}
use Rattle.program_text.specs.Letters.{letters}
use Rattle.program_text.specs.declared.letter.Letter.{Letter}
use Rattle.run_laws.specs.Timely.{is_known}
use Rattle.run_laws.specs.Turns.{after_turn}
use Rattle.site_schedule.specs.declared.queue.Queue.{Queue}

-- the letters that a site has left
abbrev pub letters_left : Queue → List Letter
letters_left queue = letters queue.place queue.left.now

-- the same of all sites
abbrev pub all_left : List Queue → List (List Letter)
all_left queues = map letters_left queues

-- what the sites have left behind turns
abbrev pub left_behind : {A : Type 0} → List (List A) → List ℕ → List (List A)
left_behind sites [] = sites
left_behind sites (i ∷ turns) = left_behind (after_turn i sites) turns

-- the first site that has something left, where i sites stand before
abbrev pub first_left : {A : Type 0} → ℕ → List (List A) → Option ℕ
first_left i [] = None
first_left i ([] ∷ sites) = first_left (i + 1) sites
first_left i ((c ∷ cs) ∷ sites) = Some i

-- marks at exactly the places that are known
abbrev pub AreMarks : List Bool → List ℕ → Type 0
AreMarks marks known = (place : ℕ) → get_or marks place false ≡ is_known known place
