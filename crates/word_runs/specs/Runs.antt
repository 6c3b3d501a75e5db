-- The stated evaluation of a run: live words, steps, turns, and the first stop.
use Rattle.std.specs.Prelude.{◌≡◌, ℕ, ◌+◌, Bool, true, ◌==◌, if◌then◌else◌, nat_lt, min, slice_index, slice_set, List, [], ◌∷◌, ◌++◌, map, length, replicate, Option, Some, None, Result, Ok, Err}
use Rattle.std.specs.List.{sum_by}
use Rattle.program_text.specs.declared.letter.Letter.{Letter}
use Rattle.program_text.specs.declared.letter.Letter.TheVariants.{Crossing, Charge, Tested, Still}
use Rattle.word_runs.specs.Told.{Told}
use Rattle.word_runs.specs.declared.engine.Step.{Step}
use Rattle.word_runs.specs.declared.engine.Step.TheVariants.{Raise, Exchange}
use Rattle.word_runs.specs.declared.fault.RunFault.{RunFault}
use Rattle.word_runs.specs.declared.fault.RunFault.TheVariants.{Stop, Memory}
use Rattle.word_runs.specs.declared.fault.RunStop.{RunStop}
use Rattle.word_runs.specs.declared.fault.RunStop.TheVariants.{Overflow, Branches, Wide}
use Rattle.word_runs.specs.declared.limits.TheConstants.{WORD_LIMIT, AMPLITUDE_LIMIT, GREATEST_COUNT}

-- A live word: one label for each measurement in text order, 0 where it isn't made yet; and its state.
pub record Live (M : Type 0) : Type 0 where
  pub word : List ℕ
  pub state : M

-- A test of an outcome: its place in the word, and the label that is asked.
pub record Test : Type 0 where
  pub place : ℕ
  pub label : ℕ

abbrev pub passes : Option Test → List ℕ → Bool
passes None word = true
passes (Some test) word = slice_index word test.place == test.label

-- what a step makes of a live word: those that fail the test stay
abbrev pub live_after : {M : Type 0} → Live M → Option M → Option (Live M)
live_after l None = None
live_after l (Some s) = Some (record { word = l.word; state = s })

abbrev pub step_word : {M T : Type 0} → Told M T → Option Test → Step → Live M → Option (Live M)
step_word e test step l = if passes test l.word then live_after l (e.stepped step l.state) else Some l

-- what f makes of each; none where it makes nothing of one
abbrev pub both : {A : Type 0} → Option A → Option (List A) → Option (List A)
both None rest = None
both (Some x) None = None
both (Some x) (Some rest) = Some (x ∷ rest)

abbrev pub each : {A B : Type 0} → (A → Option B) → List A → Option (List B)
each f [] = Some []
each f (x ∷ xs) = both (f x) (each f xs)

abbrev pub step_words : {M T : Type 0} → Told M T → Option Test → Step → List (Live M) → Option (List (Live M))
step_words e test step live = each (step_word e test step) live

-- the words that a measurement makes of a word with these parts: each part's charge is put at the measurement's place
abbrev pub outcomes_of : {M : Type 0} → ℕ → List ℕ → List (ℕ × M) → List (Live M)
outcomes_of place word parts = map (λ part. record { word = slice_set word place part.0; state = part.1 }) parts

abbrev pub split_by : {M : Type 0} → ℕ → List ℕ → Option (List (ℕ × M)) → Option (List (Live M))
split_by place word None = None
split_by place word (Some parts) = Some (outcomes_of place word parts)

abbrev pub split_word : {M T : Type 0} → Told M T → (k place : ℕ) → Live M → Option (List (Live M))
split_word e k place l = split_by place l.word (e.parts k l.state)

-- one list behind another; none where one is none
abbrev pub joined : {A : Type 0} → Option (List A) → Option (List A) → Option (List A)
joined None rest = None
joined (Some xs) None = None
joined (Some xs) (Some rest) = Some (xs ++ rest)

abbrev pub split_words : {M T : Type 0} → Told M T → (k place : ℕ) → List (Live M) → Option (List (Live M))
split_words e k place [] = Some []
split_words e k place (l ∷ live) = joined (split_word e k place l) (split_words e k place live)

-- how many amplitudes stand over all live words
abbrev pub width : {M T : Type 0} → Told M T → List (Live M) → ℕ
width e live = sum_by (λ l. e.entries l.state) live

infixl 10 ◌>>>◌
-- what follows a value, and nothing after a stop
abbrev pub ◌>>>◌ : {A B : Type 0} → Result A RunStop → (A → Result B RunStop) → Result B RunStop
(Ok x) >>> f = f x
(Err stop) >>> f = Err stop

-- a count stands still at the greatest number that is written
abbrev pub counted : ℕ → ℕ
counted n = min n GREATEST_COUNT

-- the two limits that are tried after each step, in this order
abbrev pub limited : {M T : Type 0} → Told M T → ℕ → List (Live M) → Result (List (Live M)) RunStop
limited e turn live =
    if nat_lt WORD_LIMIT (length live) then Err (Branches turn (counted (length live)))
    else (if nat_lt AMPLITUDE_LIMIT (width e live) then Err (Wide turn (counted (width e live))) else Ok live)

-- overflow comes before them
abbrev pub fitting : {A : Type 0} → ℕ → Option A → Result A RunStop
fitting turn None = Err (Overflow turn)
fitting turn (Some x) = Ok x

-- one step of a turn
abbrev pub step_of : {M T : Type 0} → Told M T → ℕ → Option Test → Step → List (Live M) → Result (List (Live M)) RunStop
step_of e turn test step live = fitting turn (step_words e test step live) >>> limited e turn

-- the step of a measurement
abbrev pub split_of : {M T : Type 0} → Told M T → ℕ → (k place : ℕ) → List (Live M) → Result (List (Live M)) RunStop
split_of e turn k place live = fitting turn (split_words e k place live) >>> limited e turn

-- a step for each of these gaps
abbrev pub raises_of : {M T : Type 0} → Told M T → ℕ → List ℕ → List (Live M) → Result (List (Live M)) RunStop
raises_of e turn [] live = Ok live
raises_of e turn (k ∷ ks) live = step_of e turn None (Raise k) live >>> raises_of e turn ks

-- all live words have one shape: the path of the first is that of each
abbrev pub path_of : {M T : Type 0} → Told M T → ℕ → List (Live M) → List ℕ
path_of e k [] = []
path_of e k (l ∷ live) = e.path k (e.shape l.state)

-- the steps that make a gap a pair
abbrev pub settled : {M T : Type 0} → Told M T → ℕ → ℕ → List (Live M) → Result (List (Live M)) RunStop
settled e turn k live = raises_of e turn (path_of e k live) live

-- One turn: the steps that make its gap a pair, and then its own.
abbrev pub turn_of : {M T : Type 0} → Told M T → ℕ → Letter → List (Live M) → Result (List (Live M)) RunStop
turn_of e turn (Still k) live = step_of e turn None (Raise k) live
turn_of e turn (Crossing k sign) live = settled e turn k live >>> step_of e turn None (Exchange k sign)
turn_of e turn (Tested k sign place label) live =
    settled e turn k live >>> step_of e turn (Some (record { place = place; label = label })) (Exchange k sign)
turn_of e turn (Charge k place) live = settled e turn k live >>> split_of e turn k place

-- The turns, of which the first has this number.
abbrev pub run_of : {M T : Type 0} → Told M T → ℕ → List Letter → List (Live M) → Result (List (Live M)) RunStop
run_of e turn [] live = Ok live
run_of e turn (l ∷ ls) live = turn_of e turn l live >>> run_of e (turn + 1) ls

-- the one live word at the beginning: no outcomes at m places, and the start
abbrev pub start_word : {M : Type 0} → ℕ → M → List (Live M)
start_word m s = record { word = replicate m 0; state = s } ∷ []

-- what a call answers: the value that is stated, or exactly the stated stop; want of memory is free
abbrev pub Stops : {A : Type 0} → RunFault → Result A RunStop → Type 0
Stops (Stop stop) stated = stated ≡ Err stop
Stops Memory stated = Unit {0}

abbrev pub Runs : {V A : Type 0} → (V → A) → Result V RunFault → Result A RunStop → Type 0
Runs view (Ok value) stated = stated ≡ Ok (view value)
Runs view (Err fault) stated = Stops fault stated

-- the same of a call that changes what it is given: what it leaves counts where it answers Ok
abbrev pub Leaves : {U A : Type 0} → A → Result U RunFault → Result A RunStop → Type 0
Leaves left (Ok u) stated = stated ≡ Ok left
Leaves left (Err fault) stated = Stops fault stated
