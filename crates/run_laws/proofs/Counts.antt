-- A schedule in which each site stands as often as it has commands names a site with a command left at each turn.
use Rattle.std.proofs.Common.{◌≡◌, ℕ, zero, suc, ◌<◌, Bool, true, false, List, [], ◌∷◌, ◌++◌, length, Some, refl, ap, sym, subst, ◌∙◌, arith, inl, inr}
use Rattle.std.specs.Prelude.{◌==◌, slice_index_or, if◌then◌else◌}
use Rattle.std.specs.List.{count_by}
use Rattle.std.proofs.lemmas.Bool.Decides.{eqb_tells}
use Rattle.std.proofs.lemmas.List.Sums.{sum_by-cons}
use Rattle.run_laws.specs.Turns.{in_text, next_of, after_turn, IsSchedule}
use Rattle.run_laws.proofs.Exchanges.{TakesAll}

-- what a site has
abbrev at : {A : Type 0} → List (List A) → ℕ → ℕ
at sites i = length (slice_index_or sites i [])

nothing : {A : Type 0} (xs : List A) → 0 ≡ length xs → xs ≡ []
nothing [] e = refl
nothing (x ∷ xs) e = absurd (omega arith)

none_left : {A : Type 0} (sites : List (List A)) → ((i : ℕ) → 0 ≡ at sites i) → in_text sites ≡ []
none_left [] h = refl
none_left (cs ∷ sites) h = ap (λ xs. xs ++ in_text sites) (nothing cs (h 0)) ∙ none_left sites (λ i. h (suc i))

some_next : {A : Type 0} (i : ℕ) (sites : List (List A)) → 0 < at sites i → (a : A) × (next_of i sites ≡ Some a)
some_next i [] h = absurd (omega arith)
some_next zero ([] ∷ sites) h = absurd (omega arith)
some_next zero ((a ∷ cs) ∷ sites) h = (a, refl)
some_next (suc i) (cs ∷ sites) h = some_next i sites h

-- the site of the turn has one command less
one_less : {A : Type 0} (i : ℕ) (sites : List (List A)) (a : A) → next_of i sites ≡ Some a → at sites i ≡ suc (at (after_turn i sites) i)
one_less i [] a e = absurd (cc)
one_less zero ([] ∷ sites) a e = absurd (cc)
one_less zero ((b ∷ bs) ∷ sites) a e = refl
one_less (suc i) (bs ∷ sites) a e = one_less i sites a e

-- and every other site as many as before
others_same : {A : Type 0} (i j : ℕ) (sites : List (List A)) → (i ≡ j → ⊥) → at sites j ≡ at (after_turn i sites) j
others_same i j [] n = refl
others_same zero zero (cs ∷ sites) n = absurd (n refl)
others_same zero (suc j) ([] ∷ sites) n = refl
others_same zero (suc j) ((b ∷ bs) ∷ sites) n = refl
others_same (suc i) zero (cs ∷ sites) n = refl
others_same (suc i) (suc j) (cs ∷ sites) n = others_same i j sites (λ e. n (ap suc e))

pub count_yes : (test : ℕ → Bool) (i : ℕ) (rest : List ℕ) → test i ≡ true → count_by test (i ∷ rest) ≡ suc (count_by test rest)
count_yes test i rest e = sum_by-cons (λ j. if test j then 1 else 0) i rest ∙ rw e (omega arith)

pub count_no : (test : ℕ → Bool) (i : ℕ) (rest : List ℕ) → test i ≡ false → count_by test (i ∷ rest) ≡ count_by test rest
count_no test i rest e = sum_by-cons (λ j. if test j then 1 else 0) i rest ∙ rw e (omega arith)

pub takes_all : {A : Type 0} (schedule : List ℕ) (sites : List (List A)) → IsSchedule sites schedule → TakesAll sites schedule
takes_all [] sites h = none_left sites h
takes_all (i ∷ rest) sites h =
    let same : (i == i) ≡ true = elim (eqb_tells i i) [ inl y ↦ y.0 | inr n ↦ absurd (n.1 refl) ] in
    let mine : suc (count_by (λ j. j == i) rest) ≡ at sites i = sym (count_yes (λ j. j == i) i rest same) ∙ h i in
    let next = some_next i sites (omega arith) in (
      next,
      takes_all rest (after_turn i sites) (λ j. elim (eqb_tells i j) [
        | inl y ↦
            let less : at sites i ≡ suc (at (after_turn i sites) i) = one_less i sites next.0 next.1 in
            let here : count_by (λ k. k == i) rest ≡ at (after_turn i sites) i = omega arith in
            subst (λ (m : ℕ). count_by (λ k. k == m) rest ≡ at (after_turn i sites) m) y.1 here
        | inr n ↦ sym (count_no (λ k. k == j) i rest n.0) ∙ (h j ∙ others_same i j sites n.1)
      ]),
    )
