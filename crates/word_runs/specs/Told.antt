-- What an engine tells of the state of one word: the stated evaluation, without words and turns.
use Rattle.std.specs.Prelude.{◌≡◌, ℕ, ◌<◌, Bool, true, List, [], ◌∷◌, Option, Some}
use Rattle.std.specs.List.{AllByRecursion}
use Rattle.word_runs.specs.declared.engine.Step.{Step}
use Rattle.word_runs.specs.declared.engine.Step.TheVariants.{Raise, Exchange}

-- M is a state, T its shape.
pub record Told (M T : Type 0) : Type 0 where
  -- how many strands there are
  pub strands : ℕ
  -- the shape of a state, and that with a gap raised
  pub shape : M → T
  pub turned : ℕ → T → T
  -- the gaps to raise so that a gap becomes a pair, and whether it is one
  pub path : ℕ → T → List ℕ
  pub is_pair : ℕ → T → Bool
  -- what a step makes of a state; none where an item doesn't fit
  pub stepped : Step → M → Option M
  -- the parts of a state by the charge of a pair, in label order; none where an item doesn't fit
  pub parts : ℕ → M → Option (List (ℕ × M))
  -- how many amplitudes a state has
  pub entries : M → ℕ

-- a gap of the strands
pub record IsGap {M T : Type 0} (e : Told M T) (k : ℕ) : Type 0 where
  pub low : 0 < k
  pub high : k < e.strands

-- a raise is allowed at every gap, an exchange at a pair
abbrev pub IsAllowed : {M T : Type 0} → Told M T → Step → T → Type 0
IsAllowed e (Raise k) t = IsGap e k
IsAllowed e (Exchange k sign) t = e.is_pair k t ≡ true

-- the shape after a step
abbrev pub after_step : {M T : Type 0} → Told M T → Step → T → T
after_step e (Raise k) t = e.turned k t
after_step e (Exchange k sign) t = t

-- the shape after these gaps are raised
abbrev pub after_raises : {M T : Type 0} → Told M T → List ℕ → T → T
after_raises e [] t = t
after_raises e (k ∷ ks) t = after_raises e ks (e.turned k t)

-- Steps make of shapes what they make of every state of that shape, parts keep the shape, and a path makes a pair.
pub record AreShapes {M T : Type 0} (e : Told M T) : Type 0 where
  pub steps : (step : Step) (s s' : M) → e.stepped step s ≡ Some s' → e.shape s' ≡ after_step e step (e.shape s)
  pub parts : (k : ℕ) (s : M) (ps : List (ℕ × M)) → e.parts k s ≡ Some ps → AllByRecursion (λ part. e.shape part.1 ≡ e.shape s) ps
  pub gaps : (k : ℕ) (t : T) → IsGap e k → AllByRecursion (IsGap e) (e.path k t)
  pub pair : (k : ℕ) (t : T) → IsGap e k → e.is_pair k (after_raises e (e.path k t) t) ≡ true
