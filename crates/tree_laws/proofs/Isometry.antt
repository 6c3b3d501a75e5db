-- The weight of a vector splits at a node.
use Rattle.std.proofs.Common.{◌≡◌, ℕ, zero, suc, ◌+◌, ◌<◌, ◌≤◌, Bool, true, false, refl, ap, ap₂, sym, ◌∙◌, arith, inl, inr, ◌⊎◌}
use Rattle.std.specs.Prelude.{IsTrue, ◌==◌, ◌&&◌}
use Rattle.std.proofs.lemmas.Bool.Decides.{eqb_tells}
use Rattle.ring_laws.specs.Ring.{Held, RingLaws}
use Rattle.ring_laws.specs.Sums.{total}
use Rattle.ring_laws.proofs.SumLemmas as S
use Rattle.symbol_table.specs.AllLabels.{IsProper, HasEquations, IsWeighted, mark}
use Rattle.symbol_table.specs.Symbols.{Symbols}
use Rattle.tree_shapes.specs.Outlines.{Outline, Tip, Branch, size}
use Rattle.tree_shapes.proofs.ContextLemmas.{size_above}
use Rattle.tree_laws.specs.Trees.{top, amplitude, put, at_gap}
use Rattle.tree_laws.specs.Weights.{tree_weight}
use Rattle.tree_laws.proofs.Equations as Q
use Rattle.tree_laws.proofs.Factor.{inside_same}
use Rattle.tree_laws.proofs.Keys.{Key, put_here, put_off, gap_same, gap_swap}

-- the weights along the piece of a path over a tree's strands, as the tree groups them
abbrev pub path_weight : {E : Type 0} → Symbols E → Outline → (ℕ → ℕ) → (ℕ → ℕ) → ℕ → E
path_weight c Tip strand x i = c.w (x i) (strand i) (x (i + 1))
path_weight c (Branch l r) strand x i = c.ring.product (path_weight c l strand x i) (path_weight c r strand x (i + size l))

-- whether two keys agree at a tree's gaps
abbrev pub agree : Outline → (ℕ → ℕ) → (ℕ → ℕ) → ℕ → Bool
agree Tip key key' i = true
agree (Branch l r) key key' i = (agree l key key' i && agree r key key' (i + size l)) && (key (i + size l) == key' (i + size l))

-- the sum over the labels of a path at the places between a tree's strands
abbrev pub inner : {E : Type 0} → Symbols E → Outline → ℕ → ((ℕ → ℕ) → E) → (ℕ → ℕ) → E
inner c Tip i G x = G x
inner c (Branch l r) i G x = inner c l i (at_gap c (i + size l) (inner c r (i + size l) G)) x

with_true : (b : Bool) → (b && true) ≡ b
with_true true = refl
with_true false = refl

module _ {E : Type 0} (c : Symbols E) {K : Held E} (laws : RingLaws c.ring K) where
  abbrev o : E → E → E
  o = c.ring.product

  abbrev conj : E → E
  conj = c.ring.conjugate

  pub one-conj : conj c.ring.one ≡ c.ring.one
  one-conj =
      let m : IsTrue (c.ring.member (conj c.ring.one)) = laws.conjugate_is c.ring.one in
      sym (laws.product-one _ m) ∙ (laws.product_comm _ _ ∙ (ap (λ y. o y (conj c.ring.one)) (sym (laws.conjugate-conjugate c.ring.one laws.one_is))
      ∙ (sym (laws.conjugate-product (conj c.ring.one) c.ring.one) ∙ (ap conj (laws.product-one _ m) ∙ laws.conjugate-conjugate c.ring.one laws.one_is))))

  pub zero-conj : conj c.ring.zero ≡ c.ring.zero
  zero-conj =
      ap conj (sym (laws.product-zero (conj c.ring.zero)))
      ∙ (laws.conjugate-product (conj c.ring.zero) c.ring.zero
      ∙ (ap (λ y. o y (conj c.ring.zero)) (laws.conjugate-conjugate c.ring.zero laws.zero_is) ∙ S.zero-product laws _))

  mark-conj : (b : Bool) → conj (mark c b) ≡ mark c b
  mark-conj true = one-conj
  mark-conj false = zero-conj

  pub total-conj : (n : ℕ) (f : ℕ → E) → conj (total c.ring n f) ≡ total c.ring n (λ t. conj (f t))
  total-conj zero f = zero-conj
  total-conj (suc n) f = laws.conjugate-sum _ _ ∙ ap (λ y. c.ring.sum y (conj (f n))) (total-conj n f)

  -- sums over a tree's inner places
  pub inner_same : (t : Outline) (i : ℕ) (G G' : Key → E) → ((x : Key) → G x ≡ G' x) → (x : Key) → inner c t i G x ≡ inner c t i G' x
  inner_same Tip i G G' h x = h x
  inner_same (Branch l r) i G G' h x =
      inner_same l i _ _ (λ x. gap_same c laws (i + size l) _ _ (λ x. inner_same r (i + size l) G G' h x) x) x

  -- what does not depend on those places goes out
  pub inner_out : (t : Outline) (i : ℕ) (Y G : Key → E) → ((j u : ℕ) (x : Key) → i < j → j < i + size t → Y (put j u x) ≡ Y x)
      → (x : Key) → inner c t i (λ x. o (Y x) (G x)) x ≡ o (Y x) (inner c t i G x)
  inner_out Tip i Y G h x = refl
  inner_out (Branch l r) i Y G h x =
      inner_same l i _ _ (λ x.
      S.total_same laws c.count _ _ (λ t _. inner_out r (i + size l) Y G (λ j u x above below. h j u x (omega (arith, size_above l)) (omega arith)) (put (i + size l) t x)
      ∙ ap (λ y. o y (inner c r (i + size l) G (put (i + size l) t x))) (h (i + size l) t x (omega (arith, size_above l)) (omega (arith, size_above r))))
      ∙ sym (S.product-total laws c.count (Y x) _)) x
      ∙ inner_out l i Y (at_gap c (i + size l) (inner c r (i + size l) G)) (λ j u x above below. h j u x above (omega (arith, size_above r))) x

  -- the sum at another place is exchanged with them
  pub inner_swap : (t : Outline) (i k : ℕ) (G : Key → E) → i + size t ≤ k → (x : Key) → inner c t i (at_gap c k G) x ≡ at_gap c k (inner c t i G) x
  inner_swap Tip i k G far x = refl
  inner_swap (Branch l r) i k G far x =
      inner_same l i _ _ (λ x.
      gap_same c laws (i + size l) _ _ (λ x. inner_swap r (i + size l) k G (omega arith) x) x
      ∙ gap_swap c laws (i + size l) k (inner c r (i + size l) G) x (λ e. omega (arith, size_above r))) x
      ∙ inner_swap l i k (at_gap c (i + size l) (inner c r (i + size l) G)) (omega arith) x

  -- nothing inside depends on another place
  path_same : (t : Outline) (strand x x' : ℕ → ℕ) (i : ℕ) → ((g : ℕ) → i ≤ g → g ≤ i + size t → x g ≡ x' g) → path_weight c t strand x i ≡ path_weight c t strand x' i
  path_same Tip strand x x' i h = λ j. c.w (h i (omega arith) (omega arith) j) (strand i) (h (i + 1) (omega arith) (omega arith) j)
  path_same (Branch l r) strand x x' i h =
      ap₂ o (path_same l strand x x' i (λ g a b. h g a (omega arith))) (path_same r strand x x' (i + size l) (λ g a b. h g (omega arith) (omega arith)))

  module _ (proper : IsProper c) (equations : HasEquations c) (weighted : IsWeighted c) where
    -- one node
    pub orthogonal : (p l r e q q' : ℕ)
        → total c.ring c.count (λ u. o (o (c.w p l u) (c.w u r e)) (o (c.h p l r e q u) (conj (c.h p l r e q' u))))
        ≡ o (o (c.w l r q) (c.w p q e)) (mark c (q == q'))
    orthogonal p l r e q q' =
        S.total_same laws c.count _ (λ u. o (o (c.w l r q) (c.w p q e)) (conj (o (c.h p l r e q' u) (c.f p l r e u q)))) (λ u _.
        sym (laws.product_assoc _ _ _) ∙ (ap (λ y. o y (conj (c.h p l r e q' u))) (weighted.adjoint_f p l r e u q)
        ∙ (laws.product_assoc _ _ _ ∙ ap (o (o (c.w l r q) (c.w p q e))) (laws.product_comm _ _ ∙ sym (laws.conjugate-product _ _)))))
        ∙ (sym (S.product-total laws c.count _ _)
        ∙ (ap (o (o (c.w l r q) (c.w p q e))) (sym (total-conj c.count _) ∙ (ap conj (equations.inverse_h p l r e q' q) ∙ mark-conj _))
        ∙ allowed (S.true_or_false (c.fuse l r q)) (S.true_or_false (c.fuse p q e))))
      where
        allowed : (c.fuse l r q ≡ true) ⊎ (c.fuse l r q ≡ false) → (c.fuse p q e ≡ true) ⊎ (c.fuse p q e ≡ false)
            → o (o (c.w l r q) (c.w p q e)) (mark c (q == q' && (c.fuse l r q && c.fuse p q e))) ≡ o (o (c.w l r q) (c.w p q e)) (mark c (q == q'))
        allowed (inl a) (inl b) = ap (λ y. o (o (c.w l r q) (c.w p q e)) (mark c (q == q' && y))) (S.and_yes _ _ a b) ∙ ap (λ y. o (o (c.w l r q) (c.w p q e)) (mark c y)) (with_true (q == q'))
        allowed (inr a) b = gone (Q.left_none c laws proper _ _ (proper.w_off l r q a))
          where
            gone : o (c.w l r q) (c.w p q e) ≡ c.ring.zero → o (o (c.w l r q) (c.w p q e)) (mark c (q == q' && (c.fuse l r q && c.fuse p q e))) ≡ o (o (c.w l r q) (c.w p q e)) (mark c (q == q'))
            gone z = ap (λ y. o y (mark c (q == q' && (c.fuse l r q && c.fuse p q e)))) z ∙ (S.zero-product laws _ ∙ sym (ap (λ y. o y (mark c (q == q'))) z ∙ S.zero-product laws _))
        allowed (inl a) (inr b) = gone (Q.right_none c laws proper _ _ (proper.w_off p q e b))
          where
            gone : o (c.w l r q) (c.w p q e) ≡ c.ring.zero → o (o (c.w l r q) (c.w p q e)) (mark c (q == q' && (c.fuse l r q && c.fuse p q e))) ≡ o (o (c.w l r q) (c.w p q e)) (mark c (q == q'))
            gone z = ap (λ y. o y (mark c (q == q' && (c.fuse l r q && c.fuse p q e)))) z ∙ (S.zero-product laws _ ∙ sym (ap (λ y. o y (mark c (q == q'))) z ∙ S.zero-product laws _))

    -- equal keys have equal labels on top
    agree_top : (t : Outline) (strand key key' : ℕ → ℕ) (i : ℕ) → agree t key key' i ≡ true → top t strand key i ≡ top t strand key' i
    agree_top Tip strand key key' i h = refl
    agree_top (Branch l r) strand key key' i h =
        elim (eqb_tells (key (i + size l)) (key' (i + size l))) [ inl same ↦ same.1 | inr apart ↦ absurd (Q.clash _ apart.0 (Q.second_of_both _ _ h)) ]

    -- the weighted product of a tree's amplitudes under two keys
    abbrev pub both : Outline → (ℕ → ℕ) → Key → Key → ℕ → Key → E
    both t strand key key' i x = o (path_weight c t strand x i) (o (amplitude c t strand x key i) (conj (amplitude c t strand x key' i)))

    both_same : (t : Outline) (strand : ℕ → ℕ) (key key' : Key) (i j u : ℕ) (x : Key) → (j < i) ⊎ (i + size t < j) → both t strand key key' i (put j u x) ≡ both t strand key key' i x
    both_same t strand key key' i j u x far =
        let same = λ (g : ℕ) (a : i ≤ g) (b : g ≤ i + size t). put_off j u x g (λ e. elim far [ inl f ↦ omega arith | inr f ↦ omega arith ]) in
        let inside = λ (k : Key). inside_same c laws t strand (put j u x) k strand x k i (record { strands = λ g _ _. refl; paths = same; keys = λ g _ _. refl }) in
        ap₂ o (path_same t strand (put j u x) x i same) (ap₂ (λ y z. o y (conj z)) (inside key) (inside key'))

    abbrev pub weight_of : Outline → (ℕ → ℕ) → Key → Key → ℕ → ℕ → ℕ → E
    weight_of t strand key key' i p e = o (o (tree_weight c t strand key i) (c.w p (top t strand key i) e)) (mark c (agree t key key' i))

    leaf : (w : E) (b : Bool) → IsTrue (c.ring.member w) → (b ≡ false → w ≡ c.ring.zero) → o w (o (mark c b) (conj (mark c b))) ≡ o (o c.ring.one w) c.ring.one
    leaf w true m none =
        ap (λ y. o w (o c.ring.one y)) one-conj ∙ (ap (o w) (laws.product-one _ laws.one_is)
        ∙ sym (laws.product-one _ (laws.product_is _ _) ∙ laws.product_comm _ _))
    leaf w false m none =
        ap (o w) (S.zero-product laws _) ∙ (laws.product-zero w
        ∙ sym (laws.product-one _ (laws.product_is _ _) ∙ (ap (o c.ring.one) (none refl) ∙ laws.product-zero _)))

    joint : (pl pr h al ar h' al' ar' : E)
        → o (o pl pr) (o (o (o h al) ar) (conj (o (o h' al') ar'))) ≡ o (o (o h (conj h')) (o pl (o al (conj al')))) (o pr (o ar (conj ar')))
    joint pl pr h al ar h' al' ar' =
        ap (λ y. o (o pl pr) (o (o (o h al) ar) y)) (laws.conjugate-product _ _ ∙ ap (λ y. o y (conj ar')) (laws.conjugate-product _ _))
        ∙ apart pl pr h al ar (conj h') (conj al') (conj ar')
      where
        apart : (pl pr h al ar h' al' ar' : E) → o (o pl pr) (o (o (o h al) ar) (o (o h' al') ar')) ≡ o (o (o h h') (o pl (o al al'))) (o pr (o ar ar'))
        apart pl pr h al ar h' al' ar' = simp (laws.product_assoc, laws.product_comm, S.product_left laws)

    term_is : (hh tr w2 mr tl w1 ml : E) → o (o hh (o (o tr w2) mr)) (o (o tl w1) ml) ≡ o (o (o tl tr) (o ml mr)) (o (o w1 w2) hh)
    term_is hh tr w2 mr tl w1 ml = simp (laws.product_assoc, laws.product_comm, S.product_left laws)

    last_out : (h l r : E) → o (o h l) r ≡ o (o h r) l
    last_out h l r = simp (laws.product_assoc, laws.product_comm, S.product_left laws)

    four_out : (t u v m : E) → o t (o (o u v) m) ≡ o (o (o t u) v) m
    four_out t u v m = simp (laws.product_assoc, laws.product_comm, S.product_left laws)

    mark_both : (a b : Bool) → o (mark c a) (mark c b) ≡ mark c (a && b)
    mark_both true b = laws.product_comm _ _ ∙ laws.product-one _ (mark_is b)
      where
        mark_is : (b : Bool) → IsTrue (c.ring.member (mark c b))
        mark_is true = laws.one_is
        mark_is false = laws.zero_is
    mark_both false b = S.zero-product laws _

    -- the sum at a node's own place
    node_sum : (p a b a' b' e q q' : ℕ) (T : E) (A : Bool) → IsTrue (c.ring.member T) → (A ≡ true → (a ≡ a') × (b ≡ b'))
        → o (o T (mark c A)) (total c.ring c.count (λ u. o (o (c.w p a u) (c.w u b e)) (o (c.h p a b e q u) (conj (c.h p a' b' e q' u)))))
        ≡ o (o (o T (c.w a b q)) (c.w p q e)) (mark c (A && (q == q')))
    node_sum p a b a' b' e q q' T true m tops =
        let s = tops refl in
        ap₂ o (laws.product-one T m)
        ((λ j. total c.ring c.count (λ u. o (o (c.w p a u) (c.w u b e)) (o (c.h p a b e q u) (conj (c.h p (sym s.0 j) (sym s.1 j) e q' u))))) ∙ orthogonal p a b e q q')
        ∙ four_out _ _ _ _
    node_sum p a b a' b' e q q' T false m tops =
        ap (λ y. o y (total c.ring c.count (λ u. o (o (c.w p a u) (c.w u b e)) (o (c.h p a b e q u) (conj (c.h p a' b' e q' u)))))) (laws.product-zero T)
        ∙ (S.zero-product laws _ ∙ sym (laws.product-zero _))

    -- The weighted product of a tree's amplitudes, summed over its inner places.
    pub splits : (t : Outline) (strand : ℕ → ℕ) (key key' : Key) (i : ℕ) (x : Key)
        → inner c t i (both t strand key key' i) x ≡ weight_of t strand key key' i (x i) (x (i + size t))
    splits Tip strand key key' i x =
        leaf _ (c.fuse (x i) (strand i) (x (i + 1))) (proper.w_is _ _ _) (λ h. proper.w_off _ _ _ h)
    splits (Branch l r) strand key key' i x =
        let k = i + size l in
        let a = top l strand key i in
        let b = top r strand key (i + size l) in
        let a' = top l strand key' i in
        let b' = top r strand key' (i + size l) in
        inner_same l i _ _ (λ x. gap_same c laws (i + size l) _ _ (λ x. right_done (λ x. splits r strand key key' (i + size l) x) x) x) x
        ∙ (inner_swap l i (i + size l) (λ x. o (o (hh x) (both l strand key key' i x)) (right_part x)) (omega arith) x
        ∙ (gap_same c laws (i + size l) _ _ (λ x. left_done (λ x. splits l strand key key' i x) x) x
        ∙ (S.total_same laws c.count _ _ (λ u _. at_u u)
        ∙ (sym (S.product-total laws c.count _ _)
        ∙ (ap (λ y. o (o (o (tree_weight c l strand key i) (tree_weight c r strand key (i + size l))) y) (total c.ring c.count (λ u. o (o (c.w (x i) a u) (c.w u b (x ((i + size l) + size r)))) (o (c.h (x i) a b (x ((i + size l) + size r)) (key (i + size l)) u) (conj (c.h (x i) a' b' (x ((i + size l) + size r)) (key' (i + size l)) u)))))) (mark_both (agree l key key' i) (agree r key key' (i + size l)))
        ∙ (node_sum (x i) a b a' b' (x ((i + size l) + size r)) (key (i + size l)) (key' (i + size l)) (o (tree_weight c l strand key i) (tree_weight c r strand key (i + size l)))
        (agree l key key' i && agree r key key' (i + size l)) (laws.product_is _ _)
        (λ h. (agree_top l strand key key' i (Q.first_of_both _ _ h), agree_top r strand key key' (i + size l) (Q.second_of_both _ _ h)))
        ∙ ap (λ e. o (o (o (o (tree_weight c l strand key i) (tree_weight c r strand key (i + size l))) (c.w a b (key (i + size l)))) (c.w (x i) (key (i + size l)) (x e))) (mark c (agree (Branch l r) key key' i))) (omega arith)))))))
      where
        hh : Key → E
        hh x = o (c.h (x i) (top l strand key i) (top r strand key (i + size l)) (x ((i + size l) + size r)) (key (i + size l)) (x (i + size l)))
            (conj (c.h (x i) (top l strand key' i) (top r strand key' (i + size l)) (x ((i + size l) + size r)) (key' (i + size l)) (x (i + size l))))

        right_part : Key → E
        right_part x = weight_of r strand key key' (i + size l) (x (i + size l)) (x ((i + size l) + size r))

        left_part : Key → E
        left_part x = weight_of l strand key key' i (x i) (x (i + size l))

        hh_off : (j u : ℕ) (x : Key) → (j ≡ i → ⊥) → (j ≡ i + size l → ⊥) → (j ≡ (i + size l) + size r → ⊥) → hh (put j u x) ≡ hh x
        hh_off j u x n1 n2 n3 =
            let x1 : put j u x i ≡ x i = put_off j u x i (λ e. n1 (sym e)) in
            let x2 : put j u x (i + size l) ≡ x (i + size l) = put_off j u x (i + size l) (λ e. n2 (sym e)) in
            let x3 : put j u x ((i + size l) + size r) ≡ x ((i + size l) + size r) = put_off j u x ((i + size l) + size r) (λ e. n3 (sym e)) in
            λ d. o (c.h (x1 d) (top l strand key i) (top r strand key (i + size l)) (x3 d) (key (i + size l)) (x2 d)) (conj (c.h (x1 d) (top l strand key' i) (top r strand key' (i + size l)) (x3 d) (key' (i + size l)) (x2 d)))

        right_off : (j u : ℕ) (x : Key) → (j ≡ i + size l → ⊥) → (j ≡ (i + size l) + size r → ⊥) → right_part (put j u x) ≡ right_part x
        right_off j u x n2 n3 = ap₂ (weight_of r strand key key' (i + size l)) (put_off j u x (i + size l) (λ e. n2 (sym e))) (put_off j u x ((i + size l) + size r) (λ e. n3 (sym e)))

        right_done : ((x : Key) → inner c r (i + size l) (both r strand key key' (i + size l)) x ≡ right_part x) → (x : Key) → inner c r (i + size l) (both (Branch l r) strand key key' i) x ≡ o (o (hh x) (both l strand key key' i x)) (right_part x)
        right_done ih x =
            inner_same r (i + size l) _ (λ x. o (o (hh x) (both l strand key key' i x)) (both r strand key key' (i + size l) x)) (λ x. joint _ _ _ _ _ _ _ _) x
            ∙ (inner_out r (i + size l) (λ x. o (hh x) (both l strand key key' i x)) (both r strand key key' (i + size l))
            (λ j u x above below. ap₂ o (hh_off j u x (λ e. omega arith) (λ e. omega arith) (λ e. omega arith)) (both_same l strand key key' i j u x (inr above))) x
            ∙ ap (o (o (hh x) (both l strand key key' i x))) (ih x))

        left_done : ((x : Key) → inner c l i (both l strand key key' i) x ≡ left_part x) → (x : Key) → inner c l i (λ x. o (o (hh x) (both l strand key key' i x)) (right_part x)) x ≡ o (o (hh x) (right_part x)) (left_part x)
        left_done ih x =
            inner_same l i _ (λ x. o (o (hh x) (right_part x)) (both l strand key key' i x)) (λ x. last_out _ _ _) x
            ∙ (inner_out l i (λ x. o (hh x) (right_part x)) (both l strand key key' i)
            (λ j u x above below. ap₂ o (hh_off j u x (λ e. omega arith) (λ e. omega arith) (λ e. omega arith)) (right_off j u x (λ e. omega arith) (λ e. omega arith))) x
            ∙ ap (o (o (hh x) (right_part x))) (ih x))

        at_u : (u : ℕ) → o (o (hh (put (i + size l) u x)) (right_part (put (i + size l) u x))) (left_part (put (i + size l) u x))
            ≡ o (o (o (tree_weight c l strand key i) (tree_weight c r strand key (i + size l))) (o (mark c (agree l key key' i)) (mark c (agree r key key' (i + size l)))))
            (o (o (c.w (x i) (top l strand key i) u) (c.w u (top r strand key (i + size l)) (x ((i + size l) + size r))))
            (o (c.h (x i) (top l strand key i) (top r strand key (i + size l)) (x ((i + size l) + size r)) (key (i + size l)) u)
            (conj (c.h (x i) (top l strand key' i) (top r strand key' (i + size l)) (x ((i + size l) + size r)) (key' (i + size l)) u))))
        at_u u =
            let x1 : put (i + size l) u x i ≡ x i = put_off (i + size l) u x i (λ e. omega (arith, size_above l)) in
            let x2 : put (i + size l) u x (i + size l) ≡ u = put_here (i + size l) u x in
            let x3 : put (i + size l) u x ((i + size l) + size r) ≡ x ((i + size l) + size r) = put_off (i + size l) u x ((i + size l) + size r) (λ e. omega (arith, size_above r)) in
            (λ d. o (o (o (c.h (x1 d) (top l strand key i) (top r strand key (i + size l)) (x3 d) (key (i + size l)) (x2 d)) (conj (c.h (x1 d) (top l strand key' i) (top r strand key' (i + size l)) (x3 d) (key' (i + size l)) (x2 d))))
            (weight_of r strand key key' (i + size l) (x2 d) (x3 d))) (weight_of l strand key key' i (x1 d) (x2 d)))
            ∙ term_is _ _ _ _ _ _ _
