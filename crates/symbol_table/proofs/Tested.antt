-- Laws that hold since every index was tried.
use Rattle.std.proofs.Common.{◌≡◌, ℕ, zero, suc, ◌<◌, Bool, true, false, ◌&&◌, ◌||◌, not, List, [], ◌∷◌, ◌++◌, length, refl, sym, ap, ◌∙◌, arith, append_assoc, append-nil, inl, inr, true≢false}
use Rattle.std.specs.Prelude.{All}
use Rattle.std.specs.List.{list_all}
use Rattle.std.proofs.lemmas.Bool.{cases_eq}
use Rattle.std.proofs.lemmas.List.Elements.{All-head, All-tail, All-weaker}
use Rattle.std.proofs.lemmas.List.Sums.{AllPass-from_list_all}
use Rattle.ring_laws.specs.Ring.{Ring, Held}
use Rattle.symbol_table.specs.Symbols.{Symbols}
use Rattle.symbol_table.specs.Laws.{Equation, Same, NotZero, Free, Holds, LawHolds, equation_of, form_of, fuse_all}
use Rattle.symbol_table.specs.declared.law.Law.{Law}

-- each label below n
abbrev pub all_below : ℕ → (ℕ → Bool) → Bool
all_below zero test = true
all_below (suc n) test = test n && all_below n test

-- each index that goes on with so many more labels below n
abbrev pub all_over : ℕ → ℕ → (List ℕ → Bool) → List ℕ → Bool
all_over n zero test index = test index
all_over n (suc more) test index = all_below n (λ t. all_over n more test (index ++ t ∷ []))

-- the equation is true, by the test of equality
abbrev pub is_met : {E : Type 0} → Ring E → Held E → Equation E → Bool
is_met r held (Same x y) = held.equal x y
is_met r held (NotZero x) = not (held.equal x r.zero)
is_met r held Free = true

-- a law at every index
abbrev pub is_lawful_at : {E : Type 0} → Symbols E → Law → Bool
is_lawful_at c law =
    all_over c.count (form_of law).places (λ i. not (fuse_all c.fuse i (form_of law).triples) || is_met c.ring c.held (equation_of c law i)) []

both : (a b : Bool) → (a && b) ≡ true → (a ≡ true) × (b ≡ true)
both true b h = (refl, h)
both false b h = absurd (true≢false (sym h))

below_at : (n : ℕ) (test : ℕ → Bool) → all_below n test ≡ true → (t : ℕ) → t < n → test t ≡ true
below_at zero test h t lt = absurd (omega arith)
below_at (suc n) test h t lt =
    let parts = both (test n) (all_below n test) h in
    elim (cases_eq t n) [
      | inl e ↦ ap test e ∙ parts.0
      | inr other ↦ below_at n test parts.1 t (omega arith)
    ]

-- a test that was tried at every index
pub over_at : (n : ℕ) (test : List ℕ → Bool) (index rest : List ℕ) → all_over n (length rest) test index ≡ true → All (λ t. t < n) rest → test (index ++ rest) ≡ true
over_at n test index [] h below = ap test (append-nil index) ∙ h
over_at n test index (t ∷ rest) h below =
    ap test (sym (append_assoc index (t ∷ []) rest))
    ∙ over_at n test (index ++ t ∷ []) rest (below_at n (λ t. all_over n (length rest) test (index ++ t ∷ [])) h t (All-head (λ s. s < n) t rest below)) (All-tail (λ s. s < n) t rest below)

met_holds : {E : Type 0} (r : Ring E) (held : Held E) → ((x y : E) → held.equal x y ≡ true → x ≡ y) → ((x y : E) → x ≡ y → held.equal x y ≡ true) → (eq : Equation E)
    → is_met r held eq ≡ true → Holds r eq
met_holds r held sound complete (Same x y) h = sound x y h
met_holds r held sound complete (NotZero x) h = λ e. true≢false (sym (sym (ap not (complete x r.zero e)) ∙ h))
met_holds r held sound complete Free h = tt

by_admissible : (admissible met : Bool) → (not admissible || met) ≡ true → admissible ≡ true → met ≡ true
by_admissible true met h is = h
by_admissible false met h is = absurd (true≢false (sym is))

-- a law that was tried at every index holds
pub tried_law : {E : Type 0} (c : Symbols E) → ((x y : E) → c.held.equal x y ≡ true → x ≡ y) → ((x y : E) → x ≡ y → c.held.equal x y ≡ true) → (law : Law)
    → is_lawful_at c law ≡ true → LawHolds c law
tried_law c sound complete law h i long below admissible =
    let test : List ℕ → Bool = λ i. not (fuse_all c.fuse i (form_of law).triples) || is_met c.ring c.held (equation_of c law i) in
    met_holds c.ring c.held sound complete (equation_of c law i)
    (by_admissible (fuse_all c.fuse i (form_of law).triples) (is_met c.ring c.held (equation_of c law i))
    (over_at c.count test [] i (ap (λ k. all_over c.count k test []) long ∙ h) below) admissible)

-- and so each law of a list that was tried
pub tried_laws : {E : Type 0} (c : Symbols E) → ((x y : E) → c.held.equal x y ≡ true → x ≡ y) → ((x y : E) → x ≡ y → c.held.equal x y ≡ true) → (laws : List Law)
    → list_all (is_lawful_at c) laws ≡ true → All (LawHolds c) laws
tried_laws c sound complete laws h =
    All-weaker (λ law. is_lawful_at c law ≡ true) (LawHolds c) (tried_law c sound complete) laws (AllPass-from_list_all (is_lawful_at c) laws h)
