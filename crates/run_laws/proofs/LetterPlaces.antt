-- Which places letters measure: each place of a text once, whatever the schedule.
use Rattle.std.proofs.Common.{◌≡◌, ℕ, zero, suc, ◌+◌, ◌<◌, ◌≤◌, Bool, true, false, inl, inr, ◌⊎◌, List, [], ◌∷◌, ◌++◌, Some, None, refl, ap, sym, subst, ◌∙◌, arith}
use Rattle.std.specs.Prelude.{◌==◌, ◌||◌, nat_lt}
use Rattle.std.specs.Cmp.{both_ways}
use Rattle.std.specs.List.{AllByRecursion}
use Rattle.std.specs.Option.{option_to_list}
use Rattle.std.proofs.lemmas.Bool.Decides.{eqb_tells, nat_tests}
use Rattle.comb_laws.proofs.PathFacts.{and_true, nat_lt_true}
use Rattle.ring_laws.proofs.StatedLemmas.{some_inj}
use Rattle.program_text.specs.Letters.{letter_at, letters, outcomes_of, measurements}
use Rattle.program_text.specs.declared.plan.Command.{Command}
use Rattle.program_text.specs.declared.plan.Command.TheVariants.{Braid, Raise, Measure, BraidWhen}
use Rattle.program_text.specs.declared.letter.Letter.{Letter}
use Rattle.program_text.specs.declared.letter.Letter.TheVariants.{Crossing, Charge, Tested, Still}
use Rattle.word_runs.specs.Lives.{IsPlaceBelow}
use Rattle.word_runs.proofs.EachLemmas.{all_append, all_map}
use Rattle.word_runs.proofs.RunLemmas.{measurements_more}
use Rattle.run_laws.specs.Timely.{is_known, measured_at, is_timely, known_after, IsFresh, MeasureEach}
use Rattle.run_laws.specs.Turns.{in_text, next_of, after_turn, turns}
use Rattle.run_laws.specs.Schedules.{site_letters, TextMeasuresEach, SchedulesMeasureEach}
use Rattle.run_laws.proofs.Exchanges.{TakesAll, all_first, all_second, all_next, all_left}
use Rattle.run_laws.proofs.Counts.{takes_all}
use Rattle.run_laws.proofs.PlaceLemmas.{known_here, known_more}
use Rattle.run_laws.proofs.TextOrder.{letters_of_text}

pub lt_true : (p m : ℕ) → p < m → nat_lt p m ≡ true
lt_true p m h = grind (arith, nat_tests)

eqb_means : (a b : ℕ) → (a == b) ≡ true → a ≡ b
eqb_means a b h = elim (eqb_tells a b) [ inl y ↦ y.1 | inr n ↦ absurd (let off = n.0 in cc) ]

-- each stands so to each later one
abbrev pub Pairwise : {A : Type 0} → (A → A → Type 0) → List A → Type 0
Pairwise C [] = Unit {0}
Pairwise C (x ∷ xs) = AllByRecursion (C x) xs × Pairwise C xs

pairwise_first : {A : Type 0} (C : A → A → Type 0) (xs ys : List A) → Pairwise C (xs ++ ys) → Pairwise C xs
pairwise_first C [] ys h = tt
pairwise_first C (x ∷ xs) ys h = (all_first (C x) xs ys h.0, pairwise_first C xs ys h.1)

pairwise_second : {A : Type 0} (C : A → A → Type 0) (xs ys : List A) → Pairwise C (xs ++ ys) → Pairwise C ys
pairwise_second C [] ys h = h
pairwise_second C (x ∷ xs) ys h = pairwise_second C xs ys h.1

pairwise_cross : {A : Type 0} (C : A → A → Type 0) (xs ys : List A) → Pairwise C (xs ++ ys) → AllByRecursion (λ x. AllByRecursion (C x) ys) xs
pairwise_cross C [] ys h = tt
pairwise_cross C (x ∷ xs) ys h = (all_second (C x) xs ys h.0, pairwise_cross C xs ys h.1)

pairwise_append : {A : Type 0} (C : A → A → Type 0) (xs ys : List A) → Pairwise C xs → Pairwise C ys → AllByRecursion (λ x. AllByRecursion (C x) ys) xs → Pairwise C (xs ++ ys)
pairwise_append C [] ys a b h = b
pairwise_append C (x ∷ xs) ys a b h = (all_append (C x) xs ys a.0 h.0, pairwise_append C xs ys a.1 b h.1)

-- the next command stands so to all that are left
apart_next : {A : Type 0} (C : A → A → Type 0) → ((x y : A) → C x y → C y x) → (i : ℕ) (sites : List (List A)) (a : A) → next_of i sites ≡ Some a → Pairwise C (in_text sites)
    → AllByRecursion (C a) (in_text (after_turn i sites)) × Pairwise C (in_text (after_turn i sites))
apart_next C turn i [] a e h = absurd (cc)
apart_next C turn zero ([] ∷ sites) a e h = absurd (cc)
apart_next C turn zero ((b ∷ bs) ∷ sites) a e h = (subst (λ x. AllByRecursion (C x) (bs ++ in_text sites)) (some_inj b a e) h.0, h.1)
apart_next C turn (suc i) (bs ∷ sites) a e h =
    let cross = pairwise_cross C bs (in_text sites) h in
    let rest = apart_next C turn i sites a e (pairwise_second C bs (in_text sites) h) in (
      all_append (C a) bs (in_text (after_turn i sites)) (all_map (λ x. AllByRecursion (C x) (in_text sites)) (C a) bs (λ x all. turn x a (all_next (C x) i sites a e all)) cross) rest.0,
      pairwise_append C bs (in_text (after_turn i sites)) (pairwise_first C bs (in_text sites) h) rest.1
          (all_map (λ x. AllByRecursion (C x) (in_text sites)) (λ x. AllByRecursion (C x) (in_text (after_turn i sites))) bs (λ x. all_left (C x) i sites) cross),
    )

abbrev pub Different : Letter → Letter → Type 0
Different a b = (p : ℕ) → measured_at a ≡ Some p → measured_at b ≡ Some p → ⊥

abbrev pub Unmade : List ℕ → Letter → Type 0
Unmade known l = (p : ℕ) → measured_at l ≡ Some p → is_known known p ≡ false

unmade_more : (p : ℕ) (known : List ℕ) (k : ℕ) (b : Letter) → Different (Charge k p) b → Unmade known b → Unmade (p ∷ known) b
unmade_more p known k b d u r e = by (p == r) refl
  where
    by : (t : Bool) → (p == r) ≡ t → (t || is_known known r) ≡ false
    by true is = absurd (d r (ap Some (eqb_means p r is)) e)
    by false is = u r e

fresh_first : (l : Letter) (ls : List Letter) (known : List ℕ) → Unmade known l → IsFresh (known_after known (l ∷ [])) ls → IsFresh known (l ∷ ls)
fresh_first (Crossing k sign) ls known u f = f
fresh_first (Charge k p) ls known u f = (u p refl, f)
fresh_first (Tested k sign p q) ls known u f = f
fresh_first (Still k) ls known u f = f

unmade_after : (l : Letter) (known : List ℕ) (bs : List Letter) → AllByRecursion (Different l) bs → AllByRecursion (Unmade known) bs → AllByRecursion (Unmade (known_after known (l ∷ []))) bs
unmade_after l known [] d u = tt
unmade_after (Crossing k sign) known (b ∷ bs) d u = u
unmade_after (Charge k p) known (b ∷ bs) d u = (unmade_more p known k b d.0 u.0, unmade_after (Charge k p) known bs d.1 u.1)
unmade_after (Tested k sign p q) known (b ∷ bs) d u = u
unmade_after (Still k) known (b ∷ bs) d u = u

-- letters none of which measures a place of another measure no place twice
fresh_letters : (ls : List Letter) (known : List ℕ) → Pairwise Different ls → AllByRecursion (Unmade known) ls → IsFresh known ls
fresh_letters [] known d u = tt
fresh_letters (l ∷ ls) known d u =
    fresh_first l ls known u.0 (fresh_letters ls (known_after known (l ∷ [])) d.1 (unmade_after l known ls d.0 u.1))

-- what holds of each command holds of each turn
pub all_turns : {A : Type 0} (P : A → Type 0) (schedule : List ℕ) (sites : List (List A)) → TakesAll sites schedule → AllByRecursion P (in_text sites) → AllByRecursion P (turns sites schedule)
all_turns P [] sites r h = tt
all_turns P (i ∷ schedule) sites r h =
    subst (λ o. AllByRecursion P (option_to_list o ++ turns (after_turn i sites) schedule)) (sym r.0.1)
    (all_next P i sites r.0.0 r.0.1 h, all_turns P schedule (after_turn i sites) r.1 (all_left P i sites h))

-- and what holds of each two commands holds of each two turns
pairwise_turns : {A : Type 0} (C : A → A → Type 0) → ((x y : A) → C x y → C y x) → (schedule : List ℕ) (sites : List (List A)) → TakesAll sites schedule
    → Pairwise C (in_text sites) → Pairwise C (turns sites schedule)
pairwise_turns C turn [] sites r h = tt
pairwise_turns C turn (i ∷ schedule) sites r h =
    let left = apart_next C turn i sites r.0.0 r.0.1 h in
    subst (λ o. Pairwise C (option_to_list o ++ turns (after_turn i sites) schedule)) (sym r.0.1)
    (all_turns (C r.0.0) schedule (after_turn i sites) r.1 left.0, pairwise_turns C turn schedule (after_turn i sites) r.1 left.1)

-- the letters of a text measure places from the first on
from_place : (q : ℕ) (cs : List Command) (low : ℕ) → low ≤ q → AllByRecursion (λ l. (p : ℕ) → measured_at l ≡ Some p → low ≤ p) (letters q cs)
from_place q [] low h = tt
from_place q (c ∷ cs) low h = (one c, from_place (q + outcomes_of c) cs low (omega arith))
  where
    one : (x : Command) (p : ℕ) → measured_at (letter_at q x) ≡ Some p → low ≤ p
    one (Braid k sign) p e = absurd (cc)
    one (Raise k) p e = absurd (cc)
    one (Measure k) p e = subst (λ n. low ≤ n) (some_inj q p e) h
    one (BraidWhen k sign r l) p e = absurd (cc)

pub text_different : (q : ℕ) (cs : List Command) → Pairwise Different (letters q cs)
text_different q [] = tt
text_different q (c ∷ cs) = (first c cs, text_different (q + outcomes_of c) cs)
  where
    none : (l : Letter) (bs : List Letter) → measured_at l ≡ None → AllByRecursion (Different l) bs
    none l [] e = tt
    none l (b ∷ bs) e = ((λ p a o. cc), none l bs e)

    first : (x : Command) (xs : List Command) → AllByRecursion (Different (letter_at q x)) (letters (q + outcomes_of x) xs)
    first (Braid k sign) xs = none (Crossing k sign) (letters (q + 0) xs) refl
    first (Raise k) xs = none (Still k) (letters (q + 0) xs) refl
    first (Measure k) xs =
        all_map (λ l. (p : ℕ) → measured_at l ≡ Some p → q + 1 ≤ p) (Different (Charge k q)) (letters (q + 1) xs)
        (λ l low p a b. let same : q ≡ p = some_inj q p a in let above : q + 1 ≤ p = low p b in omega arith)
        (from_place (q + 1) xs (q + 1) (omega arith))
    first (BraidWhen k sign r l) xs = none (Tested k sign r l) (letters (q + 0) xs) refl

-- a letter that measures the place is there
abbrev pub Measures : ℕ → List Letter → Type 0
Measures p [] = ⊥
Measures p (l ∷ ls) = (measured_at l ≡ Some p) ⊎ Measures p ls

known_kept : (p : ℕ) (ls : List Letter) (known : List ℕ) → is_known known p ≡ true → is_known (known_after known ls) p ≡ true
known_kept p [] known h = h
known_kept p (Crossing k sign ∷ ls) known h = known_kept p ls known h
known_kept p (Charge k x ∷ ls) known h = known_kept p ls (x ∷ known) (known_more x p known h)
known_kept p (Tested k sign x q ∷ ls) known h = known_kept p ls known h
known_kept p (Still k ∷ ls) known h = known_kept p ls known h

pub known_has : (p : ℕ) (ls : List Letter) (known : List ℕ) → Measures p ls → is_known (known_after known ls) p ≡ true
known_has p [] known h = absurd h
known_has p (Crossing k sign ∷ ls) known (inl e) = absurd (cc)
known_has p (Crossing k sign ∷ ls) known (inr h) = known_has p ls known h
known_has p (Charge k x ∷ ls) known (inl e) = known_kept p ls (x ∷ known) (subst (λ y. is_known (y ∷ known) p ≡ true) (sym (some_inj x p e)) (known_here p known))
known_has p (Charge k x ∷ ls) known (inr h) = known_has p ls (x ∷ known) h
known_has p (Tested k sign x q ∷ ls) known (inl e) = absurd (cc)
known_has p (Tested k sign x q ∷ ls) known (inr h) = known_has p ls known h
known_has p (Still k ∷ ls) known (inl e) = absurd (cc)
known_has p (Still k ∷ ls) known (inr h) = known_has p ls known h

has_second : (p : ℕ) (xs ys : List Letter) → Measures p (xs ++ ys) → Measures p xs ⊎ Measures p ys
has_second p [] ys h = inr h
has_second p (x ∷ xs) ys (inl e) = inl (inl e)
has_second p (x ∷ xs) ys (inr h) = elim (has_second p xs ys h) [ inl a ↦ inl (inr a) | inr b ↦ inr b ]

has_first_append : (p : ℕ) (xs ys : List Letter) → Measures p xs → Measures p (xs ++ ys)
has_first_append p [] ys h = absurd h
has_first_append p (x ∷ xs) ys (inl e) = inl e
has_first_append p (x ∷ xs) ys (inr h) = inr (has_first_append p xs ys h)

has_second_append : (p : ℕ) (xs ys : List Letter) → Measures p ys → Measures p (xs ++ ys)
has_second_append p [] ys h = h
has_second_append p (x ∷ xs) ys h = inr (has_second_append p xs ys h)

has_next : (p i : ℕ) (sites : List (List Letter)) (a : Letter) → next_of i sites ≡ Some a → Measures p (in_text sites) → (measured_at a ≡ Some p) ⊎ Measures p (in_text (after_turn i sites))
has_next p i [] a e h = absurd h
has_next p zero ([] ∷ sites) a e h = absurd (cc)
has_next p zero ((b ∷ bs) ∷ sites) a e (inl s) = inl (ap measured_at (sym (some_inj b a e)) ∙ s)
has_next p zero ((b ∷ bs) ∷ sites) a e (inr h) = inr h
has_next p (suc i) (bs ∷ sites) a e h = elim (has_second p bs (in_text sites) h) [
  | inl mine ↦ inr (has_first_append p bs (in_text (after_turn i sites)) mine)
  | inr theirs ↦ elim (has_next p i sites a e theirs) [ inl s ↦ inl s | inr rest ↦ inr (has_second_append p bs (in_text (after_turn i sites)) rest) ]
]

-- what the text measures every schedule measures
pub has_turns : (p : ℕ) (schedule : List ℕ) (sites : List (List Letter)) → TakesAll sites schedule → Measures p (in_text sites) → Measures p (turns sites schedule)
has_turns p [] sites r h = subst (Measures p) r h
has_turns p (i ∷ schedule) sites r h =
    subst (λ o. Measures p (option_to_list o ++ turns (after_turn i sites) schedule)) (sym r.0.1)
    (elim (has_next p i sites r.0.0 r.0.1 h) [ inl s ↦ inl s | inr rest ↦ inr (has_turns p schedule (after_turn i sites) r.1 rest) ])

pub has_letters : (p q : ℕ) (cs : List Command) → q ≤ p → p < q + measurements cs → Measures p (letters q cs)
has_letters p q [] low high = absurd (omega arith)
has_letters p q (Braid k sign ∷ cs) low high = inr (has_letters p (q + 0) cs (omega arith) (omega arith))
has_letters p q (Raise k ∷ cs) low high = inr (has_letters p (q + 0) cs (omega arith) (omega arith))
has_letters p q (BraidWhen k sign r l ∷ cs) low high = inr (has_letters p (q + 0) cs (omega arith) (omega arith))
has_letters p q (Measure k ∷ cs) low high = elim (eqb_tells q p) [
  | inl same ↦ inl (ap Some same.1)
  | inr other ↦ inr (has_letters p (q + 1) cs (let apart : q ≡ p → ⊥ = other.1 in omega arith) (omega arith))
]

-- the places that a letter measures are below m
abbrev pub MeasuresBelow : ℕ → Letter → Type 0
MeasuresBelow m l = (p : ℕ) → measured_at l ≡ Some p → p < m

known_cons : (x p : ℕ) (known : List ℕ) → is_known (x ∷ known) p ≡ true → (x ≡ p) ⊎ (is_known known p ≡ true)
known_cons x p known h = elim (eqb_tells x p) [ inl y ↦ inl y.1 | inr n ↦ inr (ap (λ b. b || is_known known p) (sym n.0) ∙ h) ]

known_below : (m : ℕ) (ls : List Letter) (known : List ℕ) → AllByRecursion (MeasuresBelow m) ls → ((p : ℕ) → is_known known p ≡ true → p < m)
    → (p : ℕ) → is_known (known_after known ls) p ≡ true → p < m
known_below m [] known h low p k = low p k
known_below m (Crossing k sign ∷ ls) known h low p on = known_below m ls known h.1 low p on
known_below m (Charge k x ∷ ls) known h low p on =
    known_below m ls (x ∷ known) h.1 (λ q is. elim (known_cons x q known is) [ inl e ↦ h.0 q (ap Some e) | inr more ↦ low q more ]) p on
known_below m (Tested k sign x q ∷ ls) known h low p on = known_below m ls known h.1 low p on
known_below m (Still k ∷ ls) known h low p on = known_below m ls known h.1 low p on

all_unmade : (ls : List Letter) → AllByRecursion (Unmade []) ls
all_unmade [] = tt
all_unmade (l ∷ ls) = ((λ p e. refl), all_unmade ls)

measure_each : (m : ℕ) (ls : List Letter) → Pairwise Different ls → AllByRecursion (MeasuresBelow m) ls → ((p : ℕ) → p < m → Measures p ls) → MeasureEach m ls
measure_each m ls different below all = record {
  once = fresh_letters ls [] different (all_unmade ls);
  places = λ p. both_ways (is_known (known_after [] ls) p) (nat_lt p m)
      (λ on. lt_true p m (known_below m ls [] below (λ q none. absurd (cc)) p on)) (λ low. known_has p ls [] (all p (nat_lt_true p m low)));
}

-- letters in time read and write only the places that are measured in the end
pub places_below : (m : ℕ) (ls : List Letter) (known : List ℕ) → is_timely known ls ≡ true → ((p : ℕ) → is_known (known_after known ls) p ≡ true → p < m) → AllByRecursion (IsPlaceBelow m) ls
places_below m [] known timely low = tt
places_below m (Crossing k sign ∷ ls) known timely low = (tt, places_below m ls known timely low)
places_below m (Charge k x ∷ ls) known timely low = (low x (known_kept x ls (x ∷ known) (known_here x known)), places_below m ls (x ∷ known) timely low)
places_below m (Tested k sign x q ∷ ls) known timely low =
    (low x (known_kept x ls known (and_true (is_known known x) (is_timely known ls) timely).0), places_below m ls known (and_true (is_known known x) (is_timely known ls) timely).1 low)
places_below m (Still k ∷ ls) known timely low = (tt, places_below m ls known timely low)

-- the places of a text
letters_below : (q m : ℕ) (cs : List Command) → q + measurements cs ≤ m → AllByRecursion (MeasuresBelow m) (letters q cs)
letters_below q m [] h = tt
letters_below q m (c ∷ cs) h =
    let more = measurements_more c cs in
    (one c (omega (arith, more)), letters_below (q + outcomes_of c) m cs (omega (arith, more)))
  where
    one : (x : Command) → q + outcomes_of x ≤ m → MeasuresBelow m (letter_at q x)
    one (Braid k sign) low p e = absurd (cc)
    one (Raise k) low p e = absurd (cc)
    one (Measure k) low p e = let same : q ≡ p = some_inj q p e in omega arith
    one (BraidWhen k sign r l) low p e = absurd (cc)

pub text_measures_each : TextMeasuresEach
text_measures_each commands =
    measure_each (measurements commands) (letters 0 commands) (text_different 0 commands) (letters_below 0 (measurements commands) commands (omega arith))
    (λ p low. has_letters p 0 commands (omega arith) (omega arith))

different_turned : (x y : Letter) → Different x y → Different y x
different_turned x y c p a b = c p b a

pub schedules_measure_each : SchedulesMeasureEach
schedules_measure_each sites schedule legal =
    let m = measurements (in_text sites) in
    let ls = site_letters 0 sites in
    let text = letters_of_text 0 sites in
    let takes = takes_all schedule ls legal in
    measure_each m (turns ls schedule)
    (pairwise_turns Different different_turned schedule ls takes (subst (Pairwise Different) (sym text) (text_different 0 (in_text sites))))
    (all_turns (MeasuresBelow m) schedule ls takes (subst (AllByRecursion (MeasuresBelow m)) (sym text) (letters_below 0 m (in_text sites) (omega arith))))
    (λ p low. has_turns p schedule ls takes (subst (Measures p) (sym text) (has_letters p 0 (in_text sites) (omega arith) (omega arith))))
