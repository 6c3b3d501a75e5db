-- What the states of words stand for, and which words are live.
use Rattle.std.specs.Prelude.{◌≡◌, ℕ, ◌<◌, ◌⊎◌, Bool, true, false, slice_index, List, [], ◌∷◌, map, length, Some, Ok}
use Rattle.std.specs.List.{AllByRecursion}
use Rattle.program_text.specs.Letters.{gap_of, letters, measurements}
use Rattle.program_text.specs.declared.plan.Sign.{Sign}
use Rattle.program_text.specs.declared.plan.Command.{Command}
use Rattle.program_text.specs.declared.letter.Letter.{Letter}
use Rattle.word_runs.specs.Told.{Told, IsGap}
use Rattle.word_runs.specs.Runs.{Live, run_of, start_word}
use Rattle.word_runs.specs.declared.engine.Step.TheVariants.{Raise, Exchange}
use Rattle.comb_laws.specs.Words.{Acts, word_state}
use Rattle.comb_laws.specs.declared.operator.Operator.{Operator}
use Rattle.comb_laws.specs.declared.operator.Operator.TheVariants as operator
use Rattle.run_laws.specs.Timely.{is_known, is_timely}

-- x is one of these
abbrev pub IsIn : {A : Type 0} → A → List A → Type 0
IsIn x [] = ⊥
IsIn x (y ∷ ys) = (x ≡ y) ⊎ IsIn x ys

-- nothing stands twice
abbrev pub AreDistinct : {A : Type 0} → List A → Type 0
AreDistinct [] = Unit {0}
AreDistinct (x ∷ xs) = AllByRecursion (λ y. x ≡ y → ⊥) xs × AreDistinct xs

-- Parts stand for the projections, each under its charge: no charge twice, and none whose projection isn't zero is left
-- out.
pub record ArePartsOf {M V : Type 0} (count : ℕ) (project : ℕ → V) (nought : V → Bool) (Stands : M → V → Type 0) (parts : List (ℕ × M)) : Type 0 where
  pub sound : AllByRecursion (λ part. (part.0 < count) × Stands part.1 (project part.0)) parts
  pub complete : (q : ℕ) → q < count → nought (project q) ≡ false → IsIn q (map (λ part. part.0) parts)
  pub distinct : AreDistinct (map (λ part. part.0) parts)

-- What an engine owes, so that its words mean something: what it does to states is what the operators do to the vectors
-- that these stand for. There are `count` labels; `Good` is what the operators keep, as that a vector is zero off the
-- paths; `nought` tells whether a vector is zero; and `Stands s v` is that the state s stands for v.
pub record IsFaithful {M T V : Type 0} (e : Told M T) (count : ℕ) (act : Acts V) (Good : V → Type 0) (nought : V → Bool) (Stands : M → V → Type 0) : Type 0 where
  -- operators at gaps keep what is good
  pub keeps : (k : ℕ) (o : Operator) (v : V) → IsGap e k → Good v → Good (act k o v)
  -- operators make zero of zero
  pub nothing : (k : ℕ) (o : Operator) (v : V) → IsGap e k → Good v → nought v ≡ true → nought (act k o v) ≡ true
  -- a raise keeps what a state stands for
  pub raise : (k : ℕ) (s s' : M) (v : V) → IsGap e k → Good v → e.stepped (Raise k) s ≡ Some s' → Stands s v → Stands s' v
  -- an exchange at a pair is the exchange of the vector
  pub exchange : (k : ℕ) (sign : Sign) (s s' : M) (v : V) → IsGap e k → Good v → e.is_pair k (e.shape s) ≡ true
      → e.stepped (Exchange k sign) s ≡ Some s' → Stands s v → Stands s' (act k (operator.Exchange sign) v)
  -- the parts at a pair are the projections
  pub parts : (k : ℕ) (s : M) (ps : List (ℕ × M)) (v : V) → IsGap e k → Good v → e.is_pair k (e.shape s) ≡ true
      → e.parts k s ≡ Some ps → Stands s v → ArePartsOf count (λ q. act k (operator.Project q) v) nought Stands ps

-- What an engine owes besides, so that no live word has the vector zero: exchanges, which can be undone, make nothing
-- zero, and there are no parts whose projection is.
pub record IsExact {M T V : Type 0} (e : Told M T) (act : Acts V) (Good : V → Type 0) (nought : V → Bool) (Stands : M → V → Type 0) : Type 0 where
  pub exchange : (k : ℕ) (sign : Sign) (v : V) → IsGap e k → Good v → nought v ≡ false → nought (act k (operator.Exchange sign) v) ≡ false
  pub parts : (k : ℕ) (s : M) (ps : List (ℕ × M)) (v : V) → IsGap e k → Good v → e.is_pair k (e.shape s) ≡ true
      → e.parts k s ≡ Some ps → Stands s v → nought v ≡ false → AllByRecursion (λ part. nought (act k (operator.Project part.0) v) ≡ false) ps

-- a state stands for a vector that isn't zero
abbrev pub StandsAlive : {M V : Type 0} → (V → Bool) → (M → V → Type 0) → M → V → Type 0
StandsAlive nought Stands s v = Stands s v × (nought v ≡ false)

-- Then it is faithful with states that stand for vectors that aren't zero, and no others.
abbrev pub ExactIsFaithful : {M T V : Type 0} → Told M T → ℕ → Acts V → (V → Type 0) → (V → Bool) → (M → V → Type 0) → Type 0
ExactIsFaithful e count act Good nought Stands =
    IsFaithful e count act Good nought Stands → IsExact e act Good nought Stands → IsFaithful e count act Good nought (StandsAlive nought Stands)

abbrev pub words_of : {M : Type 0} → List (Live M) → List (List ℕ)
words_of live = map (λ l. l.word) live

-- a word of m places, with a label below the count at those that are measured, and 0 at the others
pub record IsWord (count m : ℕ) (known word : List ℕ) : Type 0 where
  pub long : length word ≡ m
  pub label : (p : ℕ) → p < m → is_known known p ≡ true → slice_index word p < count
  pub unmade : (p : ℕ) → is_known known p ≡ false → slice_index word p ≡ 0

-- words that have the same labels at the places that are measured
abbrev pub Agree : List ℕ → List ℕ → List ℕ → Type 0
Agree known w w' = (p : ℕ) → is_known known p ≡ true → slice_index w p ≡ slice_index w' p

-- Between two turns: each word has a vector, which sees the measured places alone; each live word's state stands for its
-- vector; and every word whose vector isn't zero is live, each once.
pub record AreLiving {M V : Type 0} (count m : ℕ) (Good : V → Type 0) (nought : V → Bool) (Stands : M → V → Type 0)
    (known : List ℕ) (vector : List ℕ → V) (live : List (Live M)) : Type 0 where
  pub good : (w : List ℕ) → Good (vector w)
  pub reads : (w w' : List ℕ) → Agree known w w' → vector w ≡ vector w'
  pub sound : AllByRecursion (λ l. IsWord count m known l.word × Stands l.state (vector l.word)) live
  pub complete : (w : List ℕ) → IsWord count m known w → nought (vector w) ≡ false → IsIn w (words_of live)
  pub distinct : AreDistinct (words_of live)

-- a word of m labels below the count
pub record IsFull (count m : ℕ) (word : List ℕ) : Type 0 where
  pub long : length word ≡ m
  pub label : (p : ℕ) → p < m → slice_index word p < count

-- The live words at the end of a run: each state stands for the vector of its word under the letters, and every word
-- whose vector isn't zero is live, each once. Where states stand for vectors that aren't zero, these are exactly the words
-- whose vector isn't zero.
pub record AreEnds {M V : Type 0} (count m : ℕ) (act : Acts V) (Good : V → Type 0) (nought : V → Bool) (Stands : M → V → Type 0)
    (ls : List Letter) (v : V) (live : List (Live M)) : Type 0 where
  pub good : (w : List ℕ) → Good (word_state act w ls v)
  pub sound : AllByRecursion (λ l. IsFull count m l.word × Stands l.state (word_state act l.word ls v)) live
  pub complete : (w : List ℕ) → IsFull count m w → nought (word_state act w ls v) ≡ false → IsIn w (words_of live)
  pub distinct : AreDistinct (words_of live)

-- After the turns of commands in the order of the text, from a state that stands for a vector, the live words are those
-- of the letters.
abbrev pub TextEnds : {M T V : Type 0} → Told M T → ℕ → Acts V → (V → Type 0) → (V → Bool) → (M → V → Type 0) → Type 0
TextEnds {M} {T} {V} e count act Good nought Stands =
    (commands : List Command) (s : M) (v : V) (live : List (Live M))
    → AllByRecursion (λ l. IsGap e (gap_of l)) (letters 0 commands) → is_timely [] (letters 0 commands) ≡ true
    → Good v → Stands s v
    → run_of e 1 (letters 0 commands) (start_word (measurements commands) s) ≡ Ok live
    → AreEnds count (measurements commands) act Good nought Stands (letters 0 commands) v live
