-- Sums over the labels at the gaps.
use Rattle.std.proofs.Common.{◌≡◌, ℕ, zero, suc, ◌<◌, ◌≤◌, refl, ap, ap₂, sym, ◌∙◌, subst, arith, inl, inr}
use Rattle.std.specs.Prelude.{if◌then◌else◌, ◌==◌}
use Rattle.std.proofs.lemmas.Bool.Decides.{eqb_tells}
use Rattle.ring_laws.specs.Ring.{Held, RingLaws}
use Rattle.ring_laws.specs.Sums.{total}
use Rattle.ring_laws.proofs.SumLemmas as S
use Rattle.symbol_table.specs.Symbols.{Symbols}
use Rattle.tree_laws.specs.Recoupling.{turned}
use Rattle.tree_laws.specs.Trees.{put, at_gap, at_gaps}

abbrev pub Key : Type 0
Key = ℕ → ℕ

pub put_here : (k t : ℕ) (key : Key) → put k t key k ≡ t
put_here k t key = S.if_yes (k == k) t (key k) (S.test_true k k refl)

pub put_off : (k t : ℕ) (key : Key) (j : ℕ) → (j ≡ k → ⊥) → put k t key j ≡ key j
put_off k t key j h = S.if_no (j == k) t (key j) (S.test_false j k h)

pub same_key : (a b : Key) → ((j : ℕ) → a j ≡ b j) → a ≡ b
same_key a b h i j = h j i

pub put_swap : (j k s t : ℕ) (key : Key) → (j ≡ k → ⊥) → put j s (put k t key) ≡ put k t (put j s key)
put_swap j k s t key ne = same_key _ _ (λ g.
    elim (eqb_tells g j) [
      | inl at_j ↦
          let apart : g ≡ k → ⊥ = λ e. ne (sym at_j.1 ∙ e) in
          S.if_yes (g == j) s (put k t key g) at_j.0 ∙ sym (put_off k t (put j s key) g apart ∙ S.if_yes (g == j) s (key g) at_j.0)
      | inr off_j ↦
          put_off j s (put k t key) g off_j.1 ∙ ap (λ y. if g == k then t else y) (sym (put_off j s key g off_j.1))
    ])

pub put_again : (k s t : ℕ) (key : Key) → put k s (put k t key) ≡ put k s key
put_again k s t key = same_key _ _ (λ g.
    elim (eqb_tells g k) [
      | inl at_k ↦ S.if_yes (g == k) s (put k t key g) at_k.0 ∙ sym (S.if_yes (g == k) s (key g) at_k.0)
      | inr off ↦ ap (λ y. if g == k then s else y) (put_off k t key g off.1)
    ])

-- turned twice
pub turned_put : (u v t d s : ℕ) (key : Key) → (u ≡ v → ⊥) → turned u v (put u d (put v s key)) t ≡ put u t (put v d key)
turned_put u v t d s key ne =
    ap (λ w. put u t (put v w (put u d (put v s key)))) (put_here u d (put v s key))
    ∙ (ap (put u t) (put_swap v u d d (put v s key) (λ e. ne (sym e)) ∙ ap (put u d) (put_again v d s key))
    ∙ put_again u t d (put v d key))

pub turned_off : (u v t : ℕ) (key : Key) (g : ℕ) → (g ≡ u → ⊥) → (g ≡ v → ⊥) → turned u v key t g ≡ key g
turned_off u v t key g a b = put_off u t (put v (key u) key) g a ∙ put_off v (key u) key g b

pub turned_at : (u v t : ℕ) (key : Key) → turned u v key t u ≡ t
turned_at u v t key = put_here u t (put v (key u) key)

pub turned_to : (u v t : ℕ) (key : Key) → (u ≡ v → ⊥) → turned u v key t v ≡ key u
turned_to u v t key ne = put_off u t (put v (key u) key) v (λ e. ne (sym e)) ∙ put_here v (key u) key

module _ {E : Type 0} (c : Symbols E) {K : Held E} (laws : RingLaws c.ring K) where
  pub gap_same : (k : ℕ) (G G' : Key → E) → ((key : Key) → G key ≡ G' key) → (key : Key) → at_gap c k G key ≡ at_gap c k G' key
  gap_same k G G' h key = S.total_same laws c.count _ _ (λ t _. h (put k t key))

  pub gap_swap : (j k : ℕ) (G : Key → E) (key : Key) → (j ≡ k → ⊥) → at_gap c j (at_gap c k G) key ≡ at_gap c k (at_gap c j G) key
  gap_swap j k G key ne =
      S.total_swap laws c.count c.count (λ s t. G (put k t (put j s key)))
      ∙ S.total_same laws c.count _ _ (λ t _. S.total_same laws c.count _ _ (λ s _. ap G (sym (put_swap j k s t key ne))))

  pub gaps_same : (n : ℕ) (G G' : Key → E) → ((key : Key) → G key ≡ G' key) → (key : Key) → at_gaps c n G key ≡ at_gaps c n G' key
  gaps_same zero G G' h key = h key
  gaps_same (suc n) G G' h key = gaps_same n (at_gap c (suc n) G) (at_gap c (suc n) G') (gap_same (suc n) G G' h) key

  -- one gap is pulled out of the sum over all
  pub gaps_by_one : (n k : ℕ) (G G' : Key → E) → 0 < k → k ≤ n → ((key : Key) → at_gap c k G key ≡ at_gap c k G' key)
      → (key : Key) → at_gaps c n G key ≡ at_gaps c n G' key
  gaps_by_one zero k G G' above below h key = absurd (omega arith)
  gaps_by_one (suc n) k G G' above below h key =
      elim (eqb_tells k (suc n)) [
        | inl last ↦ gaps_same n (at_gap c (suc n) G) (at_gap c (suc n) G') (subst (λ (m : ℕ). (key : Key) → at_gap c m G key ≡ at_gap c m G' key) last.1 h) key
        | inr other ↦
            gaps_by_one n k (at_gap c (suc n) G) (at_gap c (suc n) G') above (omega (arith, other.1))
            (λ key. gap_swap k (suc n) G key other.1 ∙ (gap_same (suc n) _ _ h key ∙ sym (gap_swap k (suc n) G' key other.1))) key
      ]

  -- two gaps are pulled out of the sum over all
  pub gaps_by_two : (n j k : ℕ) (G G' : Key → E) → 0 < j → j ≤ n → 0 < k → k ≤ n → (j ≡ k → ⊥)
      → ((key : Key) → at_gap c j (at_gap c k G) key ≡ at_gap c j (at_gap c k G') key)
      → (key : Key) → at_gaps c n G key ≡ at_gaps c n G' key
  gaps_by_two zero j k G G' aj bj ak bk ne h key = absurd (omega arith)
  gaps_by_two (suc n) j k G G' aj bj ak bk ne h key =
      elim (eqb_tells k (suc n)) [
        | inl last ↦
            gaps_by_one n j (at_gap c (suc n) G) (at_gap c (suc n) G') aj (omega (arith, ne, last.1))
            (subst (λ (m : ℕ). (key : Key) → at_gap c j (at_gap c m G) key ≡ at_gap c j (at_gap c m G') key) last.1 h) key
        | inr other ↦ elim (eqb_tells j (suc n)) [
          | inl here ↦
              gaps_by_one n k (at_gap c (suc n) G) (at_gap c (suc n) G') ak (omega (arith, other.1))
              (subst (λ (m : ℕ). (key : Key) → at_gap c k (at_gap c m G) key ≡ at_gap c k (at_gap c m G') key) here.1
              (λ key. gap_swap k j G key (λ e. ne (sym e)) ∙ (h key ∙ gap_swap j k G' key ne))) key
          | inr apart ↦
              gaps_by_two n j k (at_gap c (suc n) G) (at_gap c (suc n) G') aj (omega (arith, apart.1)) ak (omega (arith, other.1)) ne
              (λ key. pull n j k G key other.1 apart.1 ∙ (gap_same (suc n) _ _ h key ∙ sym (pull n j k G' key other.1 apart.1))) key
        ]
      ]
    where
      pull : (n j k : ℕ) (G : Key → E) (key : Key) → (k ≡ suc n → ⊥) → (j ≡ suc n → ⊥)
          → at_gap c j (at_gap c k (at_gap c (suc n) G)) key ≡ at_gap c (suc n) (at_gap c j (at_gap c k G)) key
      pull n j k G key nk nj =
          gap_same j _ _ (λ key. gap_swap k (suc n) G key nk) key ∙ gap_swap j (suc n) (at_gap c k G) key nj

  swing : (a b d : E) → c.ring.product (c.ring.product a b) d ≡ c.ring.product b (c.ring.product a d)
  swing a b d = laws.product_assoc a b d ∙ S.product_left laws a b d

  -- What goes over to the new keys by C, and comes back from them by C, is the same sum.
  pub gaps_turned : (n k p : ℕ) (value amp : Key → E) (C : Key → ℕ → ℕ → ℕ → E)
      → 0 < k → k ≤ n → 0 < p → p ≤ n → (k ≡ p → ⊥)
      → ((key : Key) (s d : ℕ) → C (put p s (put k d key)) ≡ C key)
      → (key : Key) → at_gaps c n (λ key. c.ring.product (total c.ring c.count (λ t. c.ring.product (C key (key k) t (key p)) (value (turned k p key t)))) (amp key)) key
      ≡ at_gaps c n (λ key. c.ring.product (value key) (total c.ring c.count (λ s. c.ring.product (C key (key p) (key k) s) (amp (turned p k key s))))) key
  gaps_turned n k p value amp C ak bk ap' bp ne local =
      let new : Key → E = λ key. c.ring.product (total c.ring c.count (λ t. c.ring.product (C key (key k) t (key p)) (value (turned k p key t)))) (amp key) in
      let old : Key → E = λ key. c.ring.product (value key) (total c.ring c.count (λ s. c.ring.product (C key (key p) (key k) s) (amp (turned p k key s)))) in
      gaps_by_two n k p new old ak bk ap' bp ne (λ key.
      S.total_same laws c.count _ _ (λ d _. S.total_same laws c.count _ _ (λ s _. new_at key d s))
      ∙ (S.total_same laws c.count _ _ (λ d _. S.total_swap laws c.count c.count _)
      ∙ (S.total_swap laws c.count c.count _
      ∙ S.total_same laws c.count _ _ (λ t _. S.total_same laws c.count _ _ (λ d _. sym (old_at key t d))))))
    where
      term : Key → ℕ → ℕ → ℕ → E
      term key d s t = c.ring.product (value (put p d (put k t key))) (c.ring.product (C key d t s) (amp (put p s (put k d key))))

      new_at : (key : Key) (d s : ℕ)
          → c.ring.product (total c.ring c.count (λ t. c.ring.product (C (put p s (put k d key)) ((put p s (put k d key)) k) t ((put p s (put k d key)) p)) (value (turned k p (put p s (put k d key)) t)))) (amp (put p s (put k d key)))
          ≡ total c.ring c.count (λ t. c.ring.product (value (put p d (put k t key))) (c.ring.product (C key d t s) (amp (put p s (put k d key)))))
      new_at key d s =
          let here : put p s (put k d key) k ≡ d = put_off p s (put k d key) k ne ∙ put_here k d key in
          let there : put p s (put k d key) p ≡ s = put_here p s (put k d key) in
          let back = λ (t : ℕ). ap (λ w. turned k p w t) (put_swap p k s d key (λ e. ne (sym e))) ∙ (turned_put k p t d s key ne ∙ put_swap k p t d key ne) in
          S.total-product laws c.count (amp (put p s (put k d key))) _
          ∙ S.total_same laws c.count _ _ (λ t _.
          ap₂ (λ a b. c.ring.product (c.ring.product a b) (amp (put p s (put k d key)))) (λ i. local key s d i (here i) t (there i)) (ap value (back t))
          ∙ swing (C key d t s) (value (put p d (put k t key))) (amp (put p s (put k d key))))

      old_at : (key : Key) (t d : ℕ)
          → c.ring.product (value (put p d (put k t key))) (total c.ring c.count (λ s. c.ring.product (C (put p d (put k t key)) ((put p d (put k t key)) p) ((put p d (put k t key)) k) s) (amp (turned p k (put p d (put k t key)) s))))
          ≡ total c.ring c.count (λ s. c.ring.product (value (put p d (put k t key))) (c.ring.product (C key d t s) (amp (put p s (put k d key)))))
      old_at key t d =
          let here : put p d (put k t key) k ≡ t = put_off p d (put k t key) k ne ∙ put_here k t key in
          let there : put p d (put k t key) p ≡ d = put_here p d (put k t key) in
          S.product-total laws c.count (value (put p d (put k t key))) _
          ∙ S.total_same laws c.count _ _ (λ s _.
          ap₂ (λ a b. c.ring.product (value (put p d (put k t key))) (c.ring.product a b)) (λ i. local key d t i (there i) (here i) s)
          (ap amp (turned_put p k s d t key (λ e. ne (sym e)))))
