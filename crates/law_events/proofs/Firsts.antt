-- No first event of a law means no verdict at any index, and the other way.
use Rattle.std.proofs.Common.{◌≡◌, ℕ, zero, suc, ◌+◌, ◌<◌, ◌≤◌, Bool, true, false, List, [], ◌∷◌, ◌++◌, length, Option, Some, None, refl, sym, ap, ◌∙◌, arith, append_assoc, append-nil, ◌⊎◌, inl, inr, true≢false}
use Rattle.std.specs.Prelude.{All, if◌then◌else◌}
use Rattle.std.specs.Option.{option_or}
use Rattle.std.proofs.lemmas.Option.{none-some}
use Rattle.std.proofs.Math.Nat.{eq-or-lt_of_le}
use Rattle.std.proofs.lemmas.List.Elements.{All-head, All-tail, All-cons, All-nil}
use Rattle.fusion_rules.specs.First.{first_from}
use Rattle.symbol_table.specs.Symbols.{Symbols, IsOfRing}
use Rattle.symbol_table.specs.Laws.{form_of, fuse_all, LawHolds}
use Rattle.symbol_table.specs.declared.law.Law.{Law}
use Rattle.symbol_table.specs.declared.law.Kind.{Kind}
use Rattle.symbol_table.specs.declared.law.Kind.TheVariants.{Fails, Overflow}
use Rattle.law_events.specs.First.{first_over, event_at, event_of}
use Rattle.law_events.specs.Sides.{first_of, verdict}
use Rattle.law_events.specs.Verdicts.{IsIndex, Fits}
use Rattle.law_events.proofs.Right.{JudgesRight}

pub or_none : {E : Type 0} (x y : Option E) → option_or x y ≡ None → (x ≡ None) × (y ≡ None)
or_none None y h = (refl, h)
or_none (Some x) y h = absurd (none-some x (sym h))

same_or_more : (t s : ℕ) → t ≤ s → (t ≡ s) ⊎ (t + 1 ≤ s)
same_or_more t s h = elim (eq-or-lt_of_le h) [ inl same ↦ inl same | inr less ↦ inr (omega (arith, less)) ]

-- no first fault, no fault at a label
none_at : {E : Type 0} (fault : ℕ → Option E) (t n s : ℕ) → first_from fault t n ≡ None → t ≤ s → s < t + n → fault s ≡ None
none_at fault t zero s h l u = absurd (omega arith)
none_at fault t (suc n) s h l u =
    let both = or_none (fault t) (first_from fault (t + 1) n) h in
    elim (same_or_more t s l) [
      | inl same ↦ ap fault (sym same) ∙ both.0
      | inr more ↦ none_at fault (t + 1) n s both.1 more (omega arith)
    ]

lt_of : {t n : ℕ} → t < n → t < 0 + n
lt_of h = omega (arith, h)

-- nor at an index
none_over : {E : Type 0} (n : ℕ) (fault : List ℕ → Option E) (index rest : List ℕ) → first_over n fault (length rest) index ≡ None → All (λ t. t < n) rest → fault (index ++ rest) ≡ None
none_over n fault index [] h below = ap fault (append-nil index) ∙ h
none_over n fault index (t ∷ rest) h below =
    let at_t : first_over n fault (length rest) (index ++ t ∷ []) ≡ None = none_at (λ t. first_over n fault (length rest) (index ++ t ∷ [])) 0 n t h (omega arith) (lt_of (All-head (λ s. s < n) t rest below)) in
    ap fault (sym (append_assoc index (t ∷ []) rest)) ∙ none_over n fault (index ++ t ∷ []) rest at_t (All-tail (λ s. s < n) t rest below)

-- an admissible index with a verdict has an event
kind_none : (admissible : Bool) (law : Law) (index : List ℕ) (kind : Option Kind) → admissible ≡ true → (if admissible then event_of law index kind else None) ≡ None → kind ≡ None
kind_none true law index None a h = refl
kind_none true law index (Some kind) a h = absurd (none-some _ (sym h))
kind_none false law index kind a h = absurd (true≢false (sym a))

-- no fault at any label, no first fault
none_from : {E : Type 0} (fault : ℕ → Option E) (t n : ℕ) → ((s : ℕ) → s < t + n → fault s ≡ None) → first_from fault t n ≡ None
none_from fault t zero h = refl
none_from fault t (suc n) h = rw (h t (omega arith)) (none_from fault (t + 1) n (λ s lt. h s (omega (arith, lt))))

-- no fault at any index, no first fault
no_first : {E : Type 0} (n more : ℕ) (fault : List ℕ → Option E) (index : List ℕ)
    → ((rest : List ℕ) → length rest ≡ more → All (λ t. t < n) rest → fault (index ++ rest) ≡ None) → first_over n fault more index ≡ None
no_first n zero fault index h = ap fault (sym (append-nil index)) ∙ h [] refl (All-nil (λ t. t < n))
no_first n (suc more) fault index h =
    none_from (λ t. first_over n fault more (index ++ t ∷ [])) 0 n
    (λ t lt. no_first n more fault (index ++ t ∷ [])
    (λ rest long below. ap fault (append_assoc index (t ∷ []) rest) ∙ h (t ∷ rest) (ap suc long) (All-cons (λ s. s < n) t rest (omega (arith, lt)) below)))

event_none : (admissible : Bool) (law : Law) (index : List ℕ) (kind : Option Kind) → (admissible ≡ true → kind ≡ None) → (if admissible then event_of law index kind else None) ≡ None
event_none true law index kind h = ap (event_of law index) (h refl)
event_none false law index kind h = refl

neither : (kind : Option Kind) → (kind ≡ Some Fails → ⊥) → (kind ≡ Some Overflow → ⊥) → kind ≡ None
neither None f o = refl
neither (Some Fails) f o = absurd (f refl)
neither (Some Overflow) f o = absurd (o refl)

module _ {E : Type 0} (c : Symbols E) where
  -- no first event of a law, no verdict at any of its indices
  pub no_verdict : (law : Law) → first_of c law ≡ None → (i : List ℕ) → IsIndex c law i → verdict c law i ≡ None
  no_verdict law h i is =
      let fault = event_at c.fuse law (verdict c law) in
      let same : first_over c.count fault (length i) [] ≡ None = ap (λ k. first_over c.count fault k []) is.long ∙ h in
      kind_none (fuse_all c.fuse i (form_of law).triples) law i (verdict c law i) is.admissible (none_over c.count fault [] i same is.labels)

  -- a law that is judged right and has no event holds
  pub law_holds : (law : Law) → JudgesRight c law → first_of c law ≡ None → LawHolds c law
  law_holds law right h i long labels admissible =
      let here = right i in here.true_where_none (no_verdict law h i (record { long = long; labels = labels; admissible = admissible }))

  -- a law that is judged right, holds and fits has no event
  pub no_event : (law : Law) → JudgesRight c law → IsOfRing c → LawHolds c law → Fits c law → first_of c law ≡ None
  no_event law right are holds fits =
      no_first c.count (form_of law).places (event_at c.fuse law (verdict c law)) []
      (λ i long labels. event_none (fuse_all c.fuse i (form_of law).triples) law i (verdict c law i)
      (λ admissible.
      let here = right i in
      neither (verdict c law i) (here.never_fails are (holds i long labels admissible)) (fits i (record { long = long; labels = labels; admissible = admissible }))))
