-- The weight of a state is that of what it stands for.
use Rattle.std.proofs.Common.{◌≡◌, ℕ, zero, suc, ◌+◌, ◌-◌, ◌<◌, ◌≤◌, true, false, refl, ap, ap₂, sym, ◌∙◌, arith, inl, inr, ◌⊎◌}
use Rattle.std.specs.Prelude.{IsTrue, ◌==◌, ◌&&◌}
use Rattle.std.proofs.lemmas.Bool.Decides.{eqb_tells, leb_tells}
use Rattle.ring_laws.specs.Ring.{Held, RingLaws}
use Rattle.ring_laws.specs.Sums.{total}
use Rattle.ring_laws.proofs.SumLemmas as S
use Rattle.symbol_table.specs.AllLabels.{IsProper, HasEquations, HasUnit, IsWeighted, mark}
use Rattle.symbol_table.specs.Symbols.{Symbols}
use Rattle.tree_shapes.specs.Outlines.{Outline, Tip, Branch, size}
use Rattle.tree_shapes.proofs.ContextLemmas.{size_above}
use Rattle.tree_laws.specs.Laws.{WeighsAsComb}
use Rattle.tree_laws.specs.Trees.{top, amplitude, put, at_gap, at_gaps, stands_for}
use Rattle.tree_laws.specs.Weights.{along, tree_weight}
use Rattle.tree_laws.proofs.EntryLemmas.{Upto, gaps_one, gaps_same_below}
use Rattle.tree_laws.proofs.Equations as Q
use Rattle.tree_laws.proofs.Isometry as I
use Rattle.tree_laws.proofs.Isometry.{path_weight, agree, inner}
use Rattle.tree_laws.proofs.Keys.{Key, put_here, put_off, gap_same, gaps_same}
use Rattle.tree_laws.proofs.Pairs.{gaps_product, gaps_total}

-- keys that agree at a tree's gaps
agree_tells : (t : Outline) (a b : Key) (i : ℕ) → agree t a b i ≡ true → (g : ℕ) → i < g → g < i + size t → a g ≡ b g
agree_tells Tip a b i h g above below = absurd (omega arith)
agree_tells (Branch l r) a b i h g above below =
    let parts = Q.first_of_both (agree l a b i && agree r a b (i + size l)) _ h in
    let at_k : a (i + size l) ≡ b (i + size l) =
    elim (eqb_tells (a (i + size l)) (b (i + size l))) [ inl e ↦ e.1 | inr n ↦ absurd (Q.clash _ n.0 (Q.second_of_both (agree l a b i && agree r a b (i + size l)) _ h)) ] in
    elim (eqb_tells g (i + size l)) [
      | inl e ↦ ap a e.1 ∙ (at_k ∙ ap b (sym e.1))
      | inr n ↦ elim (leb_tells (i + size l) g) [
        | inl right ↦ agree_tells r a b (i + size l) (Q.second_of_both _ _ parts) g (omega (arith, right.1, n.1)) (omega arith)
        | inr left ↦ agree_tells l a b i (Q.first_of_both _ _ parts) g above left.1
      ]
    ]

agree_same : (t : Outline) (a b b' : Key) (i : ℕ) → ((g : ℕ) → i < g → g < i + size t → b g ≡ b' g) → agree t a b i ≡ agree t a b' i
agree_same Tip a b b' i h = refl
agree_same (Branch l r) a b b' i h =
    let k : b (i + size l) ≡ b' (i + size l) = h (i + size l) (omega (arith, size_above l)) (omega (arith, size_above r)) in
    λ j. (agree_same l a b b' i (λ g above below. h g above (omega (arith, size_above r))) j && agree_same r a b b' (i + size l) (λ g above below. h g (omega (arith, size_above l)) (omega arith)) j)
    && (a (i + size l) == k j)

agree_own : (t : Outline) (a : Key) (i : ℕ) → agree t a a i ≡ true
agree_own Tip a i = refl
agree_own (Branch l r) a i = S.and_yes _ _ (S.and_yes _ _ (agree_own l a i) (agree_own r a (i + size l))) (S.test_true _ _ refl)

module _ {E : Type 0} (c : Symbols E) {K : Held E} (laws : RingLaws c.ring K) where
  abbrev o : E → E → E
  o = c.ring.product

  abbrev conj : E → E
  conj = c.ring.conjugate

  -- the sum over n places from i on
  abbrev range : ℕ → ℕ → (Key → E) → Key → E
  range i zero G x = G x
  range i (suc n) G x = range i n (at_gap c (i + suc n) G) x

  range_same : (i n : ℕ) (G G' : Key → E) → ((x : Key) → G x ≡ G' x) → (x : Key) → range i n G x ≡ range i n G' x
  range_same i zero G G' h x = h x
  range_same i (suc n) G G' h x = range_same i n _ _ (gap_same c laws (i + suc n) G G' h) x

  range_split : (i m n : ℕ) (G : Key → E) (x : Key) → range i (m + n) G x ≡ range i m (range (i + m) n G) x
  range_split i m zero G x = let e : m + 0 ≡ m = omega arith in ap (λ k. range i k G x) e
  range_split i m (suc n) G x =
      let up : m + suc n ≡ suc (m + n) = omega arith in
      let at : i + suc (m + n) ≡ (i + m) + suc n = omega arith in
      ap (λ k. range i k G x) up ∙ (ap (λ k. range i (m + n) (at_gap c k G) x) at ∙ range_split i m n (at_gap c ((i + m) + suc n) G) x)

  gaps_range : (n : ℕ) (G : Key → E) (x : Key) → at_gaps c n G x ≡ range 0 n G x
  gaps_range zero G x = refl
  gaps_range (suc n) G x = let e : suc n ≡ 0 + suc n = omega arith in ap (λ k. at_gaps c n (at_gap c k G) x) e ∙ gaps_range n (at_gap c (0 + suc n) G) x

  inner_range : (t : Outline) (i : ℕ) (G : Key → E) (x : Key) → inner c t i G x ≡ range i (size t - 1) G x
  inner_range Tip i G x = refl
  inner_range (Branch l r) i G x =
      let m = size l - 1 in
      let n = size r - 1 in
      let k : i + size l ≡ (i + (size l - 1)) + 1 = omega (arith, size_above l) in
      let all : (size l - 1) + (1 + (size r - 1)) ≡ (size l + size r) - 1 = omega (arith, size_above l, size_above r) in
      inner_range l i _ x
      ∙ (range_same i m _ _ (λ x.
      gap_same c laws (i + size l) _ _ (λ x. inner_range r (i + size l) G x) x
      ∙ (ap (λ k. at_gap c k (range k n G) x) k
      ∙ sym (range_split (i + m) 1 n G x))) x
      ∙ (sym (range_split i m (1 + n) G x) ∙ ap (λ k. range i k G x) all))

  gaps_inner : (t : Outline) (G : Key → E) (x : Key) → at_gaps c (size t - 1) G x ≡ inner c t 0 G x
  gaps_inner t G x = gaps_range (size t - 1) G x ∙ sym (inner_range t 0 G x)

  gaps_conj : (n : ℕ) (G : Key → E) (key : Key) → conj (at_gaps c n G key) ≡ at_gaps c n (λ key. conj (G key)) key
  gaps_conj zero G key = refl
  gaps_conj (suc n) G key = gaps_conj n (at_gap c (suc n) G) key ∙ gaps_same c laws n _ _ (λ key. I.total-conj c laws c.count _) key

  gaps_exchange : (n m : ℕ) (F : Key → Key → E) (a b : Key) → at_gaps c n (λ x. at_gaps c m (λ key. F key x) b) a ≡ at_gaps c m (λ key. at_gaps c n (F key) a) b
  gaps_exchange n zero F a b = refl
  gaps_exchange n (suc m) F a b =
      gaps_exchange n m (λ key x. total c.ring c.count (λ t. F (put (suc m) t key) x)) a b
      ∙ gaps_same c laws m _ _ (λ key. sym (gaps_total c laws n c.count (λ t. F (put (suc m) t key)) a)) b

  -- the product along strands, cut in two
  along_split : (strand x : ℕ → ℕ) (i m n : ℕ) → along c strand x i (m + n) ≡ o (along c strand x i m) (along c strand x (i + m) n)
  along_split strand x i m zero =
      let e : m + 0 ≡ m = omega arith in
      ap (along c strand x i) e ∙ sym (laws.product-one _ (along_is m))
    where
      along_is : (m : ℕ) → IsTrue (c.ring.member (along c strand x i m))
      along_is zero = laws.one_is
      along_is (suc m) = laws.product_is _ _
  along_split strand x i m (suc n) =
      let up : m + suc n ≡ suc (m + n) = omega arith in
      let at : i + (m + n) ≡ (i + m) + n = omega arith in
      ap (along c strand x i) up
      ∙ ((λ j. o (along_split strand x i m n j) (c.w (x (at j)) (strand (at j)) (x (at j + 1)))) ∙ laws.product_assoc _ _ _)

  path_is_along : ((a b e : ℕ) → IsTrue (c.ring.member (c.w a b e))) → (t : Outline) (strand x : ℕ → ℕ) (i : ℕ) → path_weight c t strand x i ≡ along c strand x i (size t)
  path_is_along w_is Tip strand x i =
      let e : i + 0 ≡ i = omega arith in
      sym (laws.product_comm _ _ ∙ (laws.product-one _ (w_is _ _ _) ∙ ap (λ k. c.w (x k) (strand k) (x (k + 1))) e))
  path_is_along w_is (Branch l r) strand x i =
      ap₂ o (path_is_along w_is l strand x i) (path_is_along w_is r strand x (i + size l)) ∙ sym (along_split strand x i (size l) (size r))

  module _ (proper : IsProper c) (equations : HasEquations c) (unit : HasUnit c) (weighted : IsWeighted c) where
    apart : (p a a' v v' : E) → o p (o (o v a) (o v' a')) ≡ o (o v v') (o p (o a a'))
    apart p a a' v v' = simp (laws.product_assoc, laws.product_comm, S.product_left laws)

    last : (v v' t u : E) → o (o v v') (o t u) ≡ o (o t (o v v')) u
    last v v' t u = simp (laws.product_assoc, laws.product_comm, S.product_left laws)

    -- the unit makes a label that label alone
    unit_off : (a b : ℕ) → (a ≡ b → ⊥) → c.fuse 0 a b ≡ false
    unit_off a b apart =
        elim (S.true_or_false (c.fuse 0 a b)) [
          | inl is ↦ absurd (Q.clash _ (S.test_false a b apart) (sym (unit.left a b (proper.labels 0 a b is).1) ∙ is))
          | inr isnt ↦ isnt
        ]

    -- at the unit, the sum over the last label
    unit_sum : (q : ℕ) (t m : E) → q < c.count → IsTrue (c.ring.member t) → total c.ring c.count (λ u. o (o t (c.w 0 q u)) m) ≡ o t m
    unit_sum q t m below is =
        S.one_term laws c.count q (λ u. o (o t (c.w 0 q u)) m)
        (λ u _ ne. ap (λ y. o (o t y) m) (proper.w_off 0 q u (unit_off q u (λ e. ne (sym e))))
        ∙ (ap (λ y. o y m) (laws.product-zero t) ∙ S.zero-product laws m)) below (laws.product_is _ _)
        ∙ (ap (λ y. o (o t y) m) (unit.w 0 q q (unit.left q q below ∙ S.test_true q q refl) refl) ∙ ap (λ y. o y m) (laws.product-one t is))

    tree_is : (t : Outline) (strand : ℕ → ℕ) (key : Key) (i : ℕ) → IsTrue (c.ring.member (tree_weight c t strand key i))
    tree_is Tip strand key i = laws.one_is
    tree_is (Branch l r) strand key i = laws.product_is _ _

    top_below : (t : Outline) (strand : ℕ → ℕ) (key : Key) → strand 0 < c.count → ((g : ℕ) → 0 < g → g ≤ size t - 1 → key g < c.count) → top t strand key 0 < c.count
    top_below Tip strand key s h = s
    top_below (Branch l r) strand key s h = h (0 + size l) (omega (arith, size_above l)) (omega (arith, size_above r))

    -- two keys of one tree, over all paths
    two_keys : (t : Outline) (strand : ℕ → ℕ) (key key' : Key) → top t strand key 0 < c.count
        → at_gaps c (size t) (I.both c laws proper equations weighted t strand key key' 0) (λ _. 0) ≡ o (tree_weight c t strand key 0) (mark c (agree t key key' 0))
    two_keys t strand key key' below =
        let m = size t - 1 in
        let up : size t ≡ suc (size t - 1) = omega (arith, size_above t) in
        let end : suc (size t - 1) ≡ 0 + size t = omega (arith, size_above t) in
        let G : Key → E = I.both c laws proper equations weighted t strand key key' 0 in
        ap (λ k. at_gaps c k G (λ _. 0)) up
        ∙ (gaps_inner t (at_gap c (suc (size t - 1)) G) (λ _. 0)
        ∙ (I.inner_swap c laws t 0 (suc (size t - 1)) G (omega (arith, size_above t)) (λ _. 0)
        ∙ (S.total_same laws c.count _ _ (λ u _.
        let at_0 : put (suc (size t - 1)) u (λ _. 0) 0 ≡ 0 = put_off (suc (size t - 1)) u (λ _. 0) 0 (λ e. omega arith) in
        let at_end : put (suc (size t - 1)) u (λ _. 0) (0 + size t) ≡ u = ap (put (suc (size t - 1)) u (λ _. 0)) (sym end) ∙ put_here (suc (size t - 1)) u (λ _. 0) in
        I.splits c laws proper equations weighted t strand key key' 0 (put (suc (size t - 1)) u (λ _. 0))
        ∙ ap₂ (I.weight_of c laws proper equations weighted t strand key key' 0) at_0 at_end)
        ∙ unit_sum (top t strand key 0) (tree_weight c t strand key 0) (mark c (agree t key key' 0)) below (tree_is t strand key 0))))

    -- The weight of a state is that of what it stands for.
    pub weight_is : WeighsAsComb c
    weight_is t strand value low same =
        let m = size t - 1 in
        let A : Key → Key → E = λ key x. o (value key) (amplitude c t strand x key 0) in
        let zero_key : Key = λ _. 0 in
        gaps_same c laws (size t) _ _ (λ x. ap (λ y. o y (o (stands_for c t strand value x) (conj (stands_for c t strand value x)))) (sym (path_is_along proper.w_is t strand x 0))) zero_key
        ∙ (gaps_same c laws (size t) _ _ (λ x.
        ap (λ y. o (path_weight c t strand x 0) (o (at_gaps c m (λ key. A key x) zero_key) y)) (gaps_conj m (λ key. A key x) zero_key)
        ∙ (ap (o (path_weight c t strand x 0)) (products m (λ key. A key x) (λ key. conj (A key x)))
        ∙ (gaps_product c laws m (path_weight c t strand x 0) _ zero_key
        ∙ gaps_same c laws m _ _ (λ key.
        gaps_product c laws m (path_weight c t strand x 0) _ zero_key
        ∙ gaps_same c laws m _ _ (λ key'.
        ap (λ y. o (path_weight c t strand x 0) (o (A key x) y)) (laws.conjugate-product _ _)
        ∙ apart _ _ _ _ _) zero_key) zero_key))) zero_key
        ∙ (gaps_exchange (size t) m (λ key x. at_gaps c m (λ key'. o (o (value key) (conj (value key'))) (I.both c laws proper equations weighted t strand key key' 0 x)) zero_key) zero_key zero_key
        ∙ gaps_same_below c laws m _ _ (λ key below.
        gaps_exchange (size t) m (λ key' x. o (o (value key) (conj (value key'))) (I.both c laws proper equations weighted t strand key key' 0 x)) zero_key zero_key
        ∙ (gaps_same c laws m _ _ (λ key'.
        sym (gaps_product c laws (size t) (o (value key) (conj (value key'))) (I.both c laws proper equations weighted t strand key key' 0) zero_key)
        ∙ (ap (o (o (value key) (conj (value key')))) (two_keys t strand key key' (top_below t strand key low below)) ∙ last _ _ _ _)) zero_key
        ∙ (gaps_one c laws m key (λ key'. o (o (tree_weight c t strand key 0) (o (value key) (conj (value key')))) (mark c (agree t key key' 0))) below
        (λ key' off. none key key' off (S.true_or_false (agree t key key' 0)))
        (λ a b h. ap₂ (λ v g. o (o (tree_weight c t strand key 0) (o (value key) (conj v))) (mark c g)) (same a b h) (agree_same t key a b 0 (λ g above below. h g above (omega arith))))
        (λ a. laws.product_is _ _) zero_key
        ∙ S.product-mark_yes laws (agree t key key 0) _ (agree_own t key 0) (laws.product_is _ _)))) zero_key))
      where
        products : (m : ℕ) (F G : Key → E) → o (at_gaps c m F (λ _. 0)) (at_gaps c m G (λ _. 0)) ≡ at_gaps c m (λ key. at_gaps c m (λ key'. o (F key) (G key')) (λ _. 0)) (λ _. 0)
        products m F G =
            laws.product_comm _ _ ∙ (gaps_product c laws m _ F (λ _. 0)
            ∙ gaps_same c laws m _ _ (λ key. laws.product_comm _ _ ∙ gaps_product c laws m (F key) G (λ _. 0)) (λ _. 0))

        none : (key key' : Key) → (Upto (size t - 1) key' key → ⊥) → (agree t key key' 0 ≡ true) ⊎ (agree t key key' 0 ≡ false)
            → o (o (tree_weight c t strand key 0) (o (value key) (conj (value key')))) (mark c (agree t key key' 0)) ≡ c.ring.zero
        none key key' off (inl is) = absurd (off (λ g above below. sym (agree_tells t key key' 0 is g above (omega (arith, size_above t)))))
        none key key' off (inr isnt) = S.product-mark_no laws (agree t key key' 0) _ isnt
