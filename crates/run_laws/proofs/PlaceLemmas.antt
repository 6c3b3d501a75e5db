-- A label at one more place of a word.
use Rattle.std.proofs.Common.{◌≡◌, ℕ, ◌<◌, Bool, true, false, inl, inr, List, ◌∷◌, length, refl, ap, sym, subst, ◌∙◌, arith}
use Rattle.std.specs.Prelude.{◌==◌, ◌||◌, slice_set, slice_index}
use Rattle.std.proofs.lemmas.Bool.Decides.{eqb_tells}
use Rattle.std.proofs.lemmas.List.{length-set, get_or-set_same, get_or-set_other, set-set, set-get_or}
use Rattle.run_laws.specs.Timely.{is_known}
use Rattle.run_laws.specs.Meaning.{IsWord}

same_test : (p : ℕ) → (p == p) ≡ true
same_test p = elim (eqb_tells p p) [ inl y ↦ y.0 | inr n ↦ absurd (n.1 refl) ]

pub known_here : (p : ℕ) (known : List ℕ) → is_known (p ∷ known) p ≡ true
known_here p known = ap (λ b. b || is_known known p) (same_test p)

pub known_more : (p j : ℕ) (known : List ℕ) → is_known known j ≡ true → is_known (p ∷ known) j ≡ true
known_more p j known h = or_true (p == j) (is_known known j) h
  where
    or_true : (a b : Bool) → b ≡ true → (a || b) ≡ true
    or_true true b h = refl
    or_true false b h = h

or_false : (a b : Bool) → (a || b) ≡ false → (a ≡ false) × (b ≡ false)
or_false true b h = absurd (cc)
or_false false b h = (refl, h)

or_second : (a b : Bool) → (a || b) ≡ true → a ≡ false → b ≡ true
or_second true b h f = absurd (cc)
or_second false b h f = h

-- a place that isn't known is none of those that are
pub not_same : (p j : ℕ) (known : List ℕ) → is_known known p ≡ false → is_known known j ≡ true → j ≡ p → ⊥
not_same p j known fresh h e =
    let there : is_known known p ≡ true = subst (λ i. is_known known i ≡ true) e h in
    cc

module _ (count m p : ℕ) (known : List ℕ) (below : p < m) (fresh : is_known known p ≡ false) where
  pub set_known : (w : List ℕ) (q : ℕ) → q < count → IsWord count m known w → IsWord count m (p ∷ known) (slice_set w p q)
  set_known w q low is =
      let long : length w ≡ m = is.long in
      let inside : p < length w = omega arith in
      record {
        long = length-set w p q ∙ is.long;
        label = λ j jm k. elim (eqb_tells p j) [
          | inl y ↦ subst (λ i. slice_index (slice_set w p q) i < count) y.1 (subst (λ v. v < count) (sym (get_or-set_same w p q 0 inside)) low)
          | inr n ↦ subst (λ v. v < count) (sym (get_or-set_other w p j q 0 (λ e. n.1 (sym e)))) (is.label j jm (or_second (p == j) (is_known known j) k n.0))
        ];
        unmade = λ j k. elim (eqb_tells p j) [
          | inl y ↦ absurd (let off = (or_false (p == j) (is_known known j) k).0 in let on = y.0 in cc)
          | inr n ↦ get_or-set_other w p j q 0 (λ e. n.1 (sym e)) ∙ is.unmade j (or_false (p == j) (is_known known j) k).1
        ];
      }

  pub unset : (w : List ℕ) → IsWord count m (p ∷ known) w → IsWord count m known (slice_set w p 0)
  unset w is =
      let long : length w ≡ m = is.long in
      let inside : p < length w = omega arith in
      record {
        long = length-set w p 0 ∙ is.long;
        label = λ j jm k. subst (λ v. v < count) (sym (get_or-set_other w p j 0 0 (not_same p j known fresh k))) (is.label j jm (known_more p j known k));
        unmade = λ j k. elim (eqb_tells p j) [
          | inl y ↦ subst (λ i. slice_index (slice_set w p 0) i ≡ 0) y.1 (get_or-set_same w p 0 0 inside)
          | inr n ↦ get_or-set_other w p j 0 0 (λ e. n.1 (sym e)) ∙ is.unmade j (ap (λ b. b || is_known known j) n.0 ∙ k)
        ];
      }

  -- a word whose place isn't made is what it is without that place's label
  pub set_back : (w : List ℕ) (q : ℕ) → IsWord count m known w → slice_set (slice_set w p q) p 0 ≡ w
  set_back w q is = set-set w p q 0 ∙ (ap (slice_set w p) (sym (is.unmade p fresh)) ∙ set-get_or w p 0)

  pub set_agrees : (w : List ℕ) (q j : ℕ) → is_known known j ≡ true → slice_index (slice_set w p q) j ≡ slice_index w j
  set_agrees w q j k = get_or-set_other w p j q 0 (not_same p j known fresh k)

  pub set_again : (w : List ℕ) → slice_set (slice_set w p 0) p (slice_index w p) ≡ w
  set_again w = set-set w p 0 (slice_index w p) ∙ set-get_or w p 0
