-- A schedule is led to text order: its first turn moves to the front of the text, past the sites before it.
use Rattle.std.proofs.Common.{◌≡◌, ℕ, zero, suc, List, [], ◌∷◌, ◌++◌, Some, refl, ap, sym, subst, ◌∙◌}
use Rattle.std.specs.List.{AllByRecursion}
use Rattle.std.specs.Option.{option_to_list}
use Rattle.run_laws.specs.Turns.{in_text, next_of, after_turn, turns}
use Rattle.ring_laws.proofs.StatedLemmas.{some_inj}
use Rattle.word_runs.proofs.EachLemmas.{all_append, all_map}

pub all_first : {A : Type 0} (P : A → Type 0) (xs ys : List A) → AllByRecursion P (xs ++ ys) → AllByRecursion P xs
all_first P [] ys a = tt
all_first P (x ∷ xs) ys a = (a.0, all_first P xs ys a.1)

pub all_second : {A : Type 0} (P : A → Type 0) (xs ys : List A) → AllByRecursion P (xs ++ ys) → AllByRecursion P ys
all_second P [] ys a = a
all_second P (x ∷ xs) ys a = all_second P xs ys a.1

-- what holds of every command holds of the next one, and of those left
pub all_next : {A : Type 0} (P : A → Type 0) (i : ℕ) (sites : List (List A)) (a : A) → next_of i sites ≡ Some a → AllByRecursion P (in_text sites) → P a
all_next P i [] a e h = absurd (cc)
all_next P zero ([] ∷ sites) a e h = absurd (cc)
all_next P zero ((b ∷ bs) ∷ sites) a e h = subst P (some_inj b a e) h.0
all_next P (suc i) (bs ∷ sites) a e h = all_next P i sites a e (all_second P bs (in_text sites) h)

pub all_left : {A : Type 0} (P : A → Type 0) (i : ℕ) (sites : List (List A)) → AllByRecursion P (in_text sites) → AllByRecursion P (in_text (after_turn i sites))
all_left P i [] h = h
all_left P zero ([] ∷ sites) h = h
all_left P zero ((b ∷ bs) ∷ sites) h = h.1
all_left P (suc i) (bs ∷ sites) h = all_append P bs (in_text (after_turn i sites)) (all_first P bs (in_text sites) h) (all_left P i sites (all_second P bs (in_text sites) h))

-- each command of a site stands so to each of a later site
abbrev pub Across : {A : Type 0} → (A → A → Type 0) → List (List A) → Type 0
Across C [] = Unit {0}
Across C (cs ∷ sites) = AllByRecursion (λ a. AllByRecursion (C a) (in_text sites)) cs × Across C sites

pub across_left : {A : Type 0} (C : A → A → Type 0) (i : ℕ) (sites : List (List A)) → Across C sites → Across C (after_turn i sites)
across_left C i [] h = h
across_left C zero ([] ∷ sites) h = h
across_left C zero ((b ∷ bs) ∷ sites) h = (h.0.1, h.1)
across_left C (suc i) (bs ∷ sites) h = (
  all_map (λ b. AllByRecursion (C b) (in_text sites)) (λ b. AllByRecursion (C b) (in_text (after_turn i sites))) bs (λ b. all_left (C b) i sites) h.0,
  across_left C i sites h.1,
)

-- the schedule names a site that has a command left at each turn, and none is left in the end
abbrev pub TakesAll : {A : Type 0} → List (List A) → List ℕ → Type 0
TakesAll sites [] = in_text sites ≡ []
TakesAll {A} sites (i ∷ schedule) = ((a : A) × (next_of i sites ≡ Some a)) × TakesAll (after_turn i sites) schedule

-- f of each, one after another
abbrev pub under : {A S : Type 0} → (A → S → S) → List A → S → S
under f [] s = s
under f (a ∷ rest) s = under f rest (f a s)

module _ {A S : Type 0} (f : A → S → S) (Good : S → Type 0) where
  abbrev pub Keeps : A → Type 0
  Keeps a = (s : S) → Good s → Good (f a s)

  abbrev pub Commutes : A → A → Type 0
  Commutes a b = (s : S) → Good s → f a (f b s) ≡ f b (f a s)

  pub under_append : (xs ys : List A) (s : S) → under f (xs ++ ys) s ≡ under f ys (under f xs s)
  under_append [] ys s = refl
  under_append (x ∷ xs) ys s = under_append xs ys (f x s)

  pub under_good : (xs : List A) (s : S) → AllByRecursion Keeps xs → Good s → Good (under f xs s)
  under_good [] s h g = g
  under_good (x ∷ xs) s h g = under_good xs (f x s) h.1 (h.0 s g)

  -- a command passes a whole site that commutes with it
  pub passes : (xs : List A) (a : A) (s : S) → AllByRecursion Keeps xs → AllByRecursion (λ x. Commutes x a) xs → Good s
      → f a (under f xs s) ≡ under f xs (f a s)
  passes [] a s k h g = refl
  passes (x ∷ xs) a s k h g = passes xs a (f x s) k.1 h.1 (k.0 s g) ∙ ap (under f xs) (sym (h.0 s g))

  -- the next command of any site may come first
  pub first_turn : (i : ℕ) (sites : List (List A)) (a : A) (s : S) → next_of i sites ≡ Some a
      → AllByRecursion Keeps (in_text sites) → Across Commutes sites → Good s
      → under f (in_text sites) s ≡ under f (in_text (after_turn i sites)) (f a s)
  first_turn i [] a s e k h g = absurd (cc)
  first_turn zero ([] ∷ sites) a s e k h g = absurd (cc)
  first_turn zero ((b ∷ bs) ∷ sites) a s e k h g = ap (λ c. under f (bs ++ in_text sites) (f c s)) (some_inj b a e)
  first_turn (suc i) (bs ∷ sites) a s e k h g =
      let mine = all_first Keeps bs (in_text sites) k in
      let theirs = all_second Keeps bs (in_text sites) k in
      under_append bs (in_text sites) s
      ∙ (first_turn i sites a (under f bs s) e theirs h.1 (under_good bs s mine g)
      ∙ (ap (under f (in_text (after_turn i sites))) (passes bs a s mine (all_map (λ b. AllByRecursion (Commutes b) (in_text sites)) (λ b. Commutes b a) bs (λ b all. all_next (Commutes b) i sites a e all) h.0) g)
      ∙ sym (under_append bs (in_text (after_turn i sites)) (f a s))))

  -- so the turns of any schedule do what the text order does
  pub any_order : (sites : List (List A)) (schedule : List ℕ) (s : S) → TakesAll sites schedule
      → AllByRecursion Keeps (in_text sites) → Across Commutes sites → Good s
      → under f (turns sites schedule) s ≡ under f (in_text sites) s
  any_order sites [] s r k h g = ap (λ cs. under f cs s) (sym r)
  any_order sites (i ∷ schedule) s r k h g =
      let a = r.0.0 in
      let there = r.0.1 in
      ap (λ o. under f (option_to_list o ++ turns (after_turn i sites) schedule) s) there
      ∙ (any_order (after_turn i sites) schedule (f a s) r.1 (all_left Keeps i sites k) (across_left Commutes i sites h) (all_next Keeps i sites a there k s g)
      ∙ sym (first_turn i sites a s there k h g))
