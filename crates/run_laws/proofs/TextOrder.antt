-- Text order is a schedule, and its turns are the text. Letters by place say what letters one after another say.
use Rattle.std.proofs.Common.{◌≡◌, ℕ, zero, suc, ◌+◌, true, false, List, [], ◌∷◌, ◌++◌, map, length, refl, ap, sym, ◌∙◌, arith, inl, inr, add-zero, zero-add}
use Rattle.std.specs.Prelude.{◌==◌, if◌then◌else◌}
use Rattle.std.specs.List.{count_by}
use Rattle.std.specs.Option.{option_to_list}
use Rattle.std.proofs.lemmas.Bool.Decides.{eqb_tells}
use Rattle.std.proofs.lemmas.List.Sums.{sum_by-append}
use Rattle.run_laws.specs.Turns.{in_text, next_of, after_turn, turns, IsSchedule, times, text_order_from, text_order}
use Rattle.program_text.specs.Letters.{letter_at, outcomes_of, letters, measurements}
use Rattle.program_text.specs.declared.plan.Command.{Command}
use Rattle.word_runs.proofs.RunLemmas.{measurements_more}
use Rattle.run_laws.specs.Schedules.{site_letters}
use Rattle.run_laws.proofs.Counts.{count_yes, count_no}

is : (a b : ℕ) → a ≡ b → (a == b) ≡ true
is a b e = elim (eqb_tells a b) [ inl y ↦ y.0 | inr n ↦ absurd (n.1 e) ]

is_not : (a b : ℕ) → (a ≡ b → ⊥) → (a == b) ≡ false
is_not a b f = elim (eqb_tells a b) [ inl y ↦ absurd (f y.1) | inr n ↦ n.0 ]

times_on : (n i : ℕ) → times n (suc i) ≡ map suc (times n i)
times_on zero i = refl
times_on (suc n) i = ap (λ l. suc i ∷ l) (times_on n i)

map_append : (xs ys : List ℕ) → map suc (xs ++ ys) ≡ map suc xs ++ map suc ys
map_append [] ys = refl
map_append (x ∷ xs) ys = ap (λ l. suc x ∷ l) (map_append xs ys)

order_on : {A : Type 0} (i : ℕ) (sites : List (List A)) → text_order_from (suc i) sites ≡ map suc (text_order_from i sites)
order_on i [] = refl
order_on i (cs ∷ sites) = (λ j. times_on (length cs) i j ++ order_on (suc i) sites j) ∙ sym (map_append (times (length cs) i) (text_order_from (suc i) sites))

-- the turns of the first site
first_site : {A : Type 0} (cs : List A) (sites : List (List A)) (rest : List ℕ) → turns (cs ∷ sites) (times (length cs) 0 ++ rest) ≡ cs ++ turns ([] ∷ sites) rest
first_site [] sites rest = refl
first_site (c ∷ cs) sites rest = ap (λ l. c ∷ l) (first_site cs sites rest)

-- the turns of the other sites
other_sites : {A : Type 0} (cs : List A) (sites : List (List A)) (rest : List ℕ) → turns (cs ∷ sites) (map suc rest) ≡ turns sites rest
other_sites cs sites [] = refl
other_sites cs sites (i ∷ rest) = ap (λ l. option_to_list (next_of i sites) ++ l) (other_sites cs (after_turn i sites) rest)

pub turns_of_text : {A : Type 0} (sites : List (List A)) → turns sites (text_order sites) ≡ in_text sites
turns_of_text [] = refl
turns_of_text (cs ∷ sites) =
    first_site cs sites (text_order_from 1 sites)
    ∙ ap (λ l. cs ++ l) (ap (turns ([] ∷ sites)) (order_on 0 sites) ∙ (other_sites [] sites (text_order sites) ∙ turns_of_text sites))

count_none : (n i : ℕ) → count_by (λ j. j == suc i) (times n 0) ≡ 0
count_none zero i = refl
count_none (suc n) i = count_no (λ j. j == suc i) 0 (times n 0) (is_not 0 (suc i) (λ e. omega arith)) ∙ count_none n i

count_all : (n : ℕ) → count_by (λ j. j == 0) (times n 0) ≡ n
count_all zero = refl
count_all (suc n) = count_yes (λ j. j == 0) 0 (times n 0) refl ∙ ap suc (count_all n)

count_later : (schedule : List ℕ) → count_by (λ j. j == 0) (map suc schedule) ≡ 0
count_later [] = refl
count_later (i ∷ rest) = count_no (λ j. j == 0) (suc i) (map suc rest) (is_not (suc i) 0 (λ e. omega arith)) ∙ count_later rest

count_on : (i : ℕ) (schedule : List ℕ) → count_by (λ j. j == suc i) (map suc schedule) ≡ count_by (λ j. j == i) schedule
count_on i [] = refl
count_on i (k ∷ rest) = elim (eqb_tells k i) [
  | inl y ↦ count_yes (λ j. j == suc i) (suc k) (map suc rest) (is (suc k) (suc i) (ap suc y.1)) ∙ (ap suc (count_on i rest) ∙ sym (count_yes (λ j. j == i) k rest y.0))
  | inr n ↦ count_no (λ j. j == suc i) (suc k) (map suc rest) (is_not (suc k) (suc i) (λ e. n.1 (omega arith))) ∙ (count_on i rest ∙ sym (count_no (λ j. j == i) k rest n.0))
]

pub text_is_schedule : {A : Type 0} (sites : List (List A)) → IsSchedule sites (text_order sites)
text_is_schedule [] i = refl
text_is_schedule (cs ∷ sites) zero =
    ap (λ l. count_by (λ j. j == 0) (times (length cs) 0 ++ l)) (order_on 0 sites)
    ∙ (sum_by-append (λ j. if j == 0 then 1 else 0) (times (length cs) 0) (map suc (text_order sites))
    ∙ (λ j. count_all (length cs) j + count_later (text_order sites) j) ∙ omega arith)
text_is_schedule (cs ∷ sites) (suc i) =
    ap (λ l. count_by (λ j. j == suc i) (times (length cs) 0 ++ l)) (order_on 0 sites)
    ∙ (sum_by-append (λ j. if j == suc i then 1 else 0) (times (length cs) 0) (map suc (text_order sites))
    ∙ ((λ j. count_none (length cs) i j + count_on i (text_order sites) j) ∙ (zero-add _ ∙ text_is_schedule sites i)))

letters_append : (p : ℕ) (xs ys : List Command) → letters p (xs ++ ys) ≡ letters p xs ++ letters (p + measurements xs) ys
letters_append p [] ys = ap (λ q. letters q ys) (sym (add-zero p))
letters_append p (x ∷ xs) ys =
    let more = measurements_more x xs in
    let e : (p + outcomes_of x) + measurements xs ≡ p + measurements (x ∷ xs) = omega (arith, more) in
    ap (λ l. letter_at p x ∷ l) (letters_append (p + outcomes_of x) xs ys ∙ ap (λ q. letters (p + outcomes_of x) xs ++ letters q ys) e)

-- the letters of the sites in a row are those of all commands in text order
pub letters_of_text : (p : ℕ) (sites : List (List Command)) → in_text (site_letters p sites) ≡ letters p (in_text sites)
letters_of_text p [] = refl
letters_of_text p (cs ∷ sites) = ap (λ l. letters p cs ++ l) (letters_of_text (p + measurements cs) sites) ∙ sym (letters_append p cs (in_text sites))
