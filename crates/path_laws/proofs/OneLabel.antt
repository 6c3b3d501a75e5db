-- What braids and projections make of the one label between two strands, at the labels before and after both.
use Rattle.std.proofs.Common.{◌≡◌, ℕ, Bool, true, false, refl, ap, sym, ◌∙◌, inl, inr, ◌⊎◌}
use Rattle.std.specs.Prelude.{IsTrue, ◌==◌, ◌&&◌}
use Rattle.std.proofs.lemmas.Bool.Decides.{eqb_tells}
use Rattle.ring_laws.specs.Ring.{Held, RingLaws}
use Rattle.ring_laws.specs.Sums.{total}
use Rattle.ring_laws.proofs.SumLemmas as S
use Rattle.symbol_table.specs.AllLabels.{IsProper, HasEquations, IsWeighted, goes_left, mark}
use Rattle.symbol_table.specs.Laws.{Holds, hexagon_says}
use Rattle.symbol_table.specs.Symbols.{Symbols}
use Rattle.tree_laws.specs.Operators.{braid_by}
use Rattle.tree_laws.proofs.Equations as Q
use Rattle.tree_laws.proofs.Isometry as I
use Rattle.tree_laws.proofs.Pairs as P

-- An exchange symbol, as R and S are: zero where not admissible, it keeps the weights, and obeys its hexagon.
pub record IsExchange {E : Type 0} (c : Symbols E) (exchange : ℕ → ℕ → ℕ → E) : Type 0 where
  pub off : (a b q : ℕ) → c.fuse a b q ≡ false → exchange a b q ≡ c.ring.zero
  pub norm : (a b q : ℕ) → c.ring.product (c.ring.product (exchange a b q) (c.ring.conjugate (exchange a b q))) (c.w b a q) ≡ c.w a b q
  pub hexagon : (a b m d e f : ℕ) → Holds c.ring (hexagon_says c exchange a b m d e f)

module _ {E : Type 0} (c : Symbols E) {K : Held E} (laws : RingLaws c.ring K) (proper : IsProper c) where
  abbrev o : E → E → E
  o = c.ring.product

  abbrev conj : E → E
  conj = c.ring.conjugate

  abbrev n : ℕ
  n = c.count

  module _ (weighted : IsWeighted c) where
    -- R after S is one
    pub r_undoes_s : (a b q : ℕ) → c.fuse a b q ≡ true → o (c.s b a q) (c.r a b q) ≡ c.ring.one
    r_undoes_s a b q is =
        let w = c.w a b q in
        let v = c.v a b q in
        let s = c.s b a q in
        let r = c.r a b q in
        let there : o (c.w a b q) (o (c.s b a q) (c.r a b q)) ≡ c.w a b q =
        sym (laws.product_assoc w s r) ∙ (ap (λ y. o y r) (weighted.adjoint_r b a q) ∙ (turn (c.w b a q) (conj r) r ∙ weighted.norm_r a b q)) in
        sym (laws.product-one _ (laws.product_is s r))
        ∙ (ap (o (o s r)) (sym (weighted.inverse a b q is))
        ∙ (past w v (o s r) ∙ (ap (λ y. o y v) there ∙ weighted.inverse a b q is)))
      where
        turn : (w k r : E) → o (o w k) r ≡ o (o r k) w
        turn w k r = simp (laws.product_assoc, laws.product_comm, S.product_left laws)

        past : (w v x : E) → o x (o w v) ≡ o (o w x) v
        past w v x = simp (laws.product_assoc, laws.product_comm, S.product_left laws)

    -- S after R is one
    pub s_undoes_r : (a b q : ℕ) → c.fuse a b q ≡ true → o (c.r b a q) (c.s a b q) ≡ c.ring.one
    s_undoes_r a b q is = laws.product_comm _ _ ∙ r_undoes_s b a q (sym (proper.commutes a b q) ∙ is)

    norm_s : (a b q : ℕ) → o (o (c.s a b q) (conj (c.s a b q))) (c.w b a q) ≡ c.w a b q
    norm_s a b q =
        elim (S.true_or_false (c.fuse a b q)) [
          | inl is ↦
              turn (c.s a b q) (conj (c.s a b q)) (c.w b a q)
              ∙ (ap (λ y. o y (conj (c.s a b q))) (weighted.adjoint_r a b q)
              ∙ (laws.product_assoc _ _ _
              ∙ (ap (o (c.w a b q)) (sym (laws.conjugate-product (c.r b a q) (c.s a b q)) ∙ (ap conj (s_undoes_r a b q is) ∙ I.one-conj c laws))
              ∙ laws.product-one _ (proper.w_is a b q))))
          | inr off ↦
              Q.right_none c laws proper _ _ (proper.w_off b a q (sym (proper.commutes a b q) ∙ off)) ∙ sym (proper.w_off a b q off)
        ]
      where
        turn : (s k w : E) → o (o s k) w ≡ o (o w s) k
        turn s k w = simp (laws.product_assoc, laws.product_comm)

    module _ (equations : HasEquations c) where
      pub r_exchanges : IsExchange c c.r
      r_exchanges = record { off = proper.r_off; norm = weighted.norm_r; hexagon = equations.hexagon_one }

      pub s_exchanges : IsExchange c c.s
      s_exchanges = record { off = proper.s_off; norm = norm_s; hexagon = equations.hexagon_two }

  module _ (equations : HasEquations c) where
    -- values of the label u over by F and back by H, where they are zero at what isn't admissible
    pub expanded : (a b m d u : ℕ) (W : ℕ → E) → IsTrue (c.ring.member (W u)) → (goes_left c a b m d u ≡ false → W u ≡ c.ring.zero)
        → W u ≡ total c.ring n (λ f. o (c.h a b m d f u) (total c.ring n (λ t. o (c.f a b m d t f) (W t))))
    expanded a b m d u W member none =
        sym (S.over_and_back laws n u (goes_left c a b m d) (λ u f. c.h a b m d f u) (λ f t. c.f a b m d t f) W
        (λ t. S.total_same laws n _ _ (λ f _. laws.product_comm _ _) ∙ (equations.inverse_f a b m d t u ∙ ap (mark c) (turned_test (goes_left c a b m d) u t)))
        member none (λ on. (proper.labels a b u (Q.first_of_both _ _ on)).2))
      where
        turned_test : (ok : ℕ → Bool) (u t : ℕ) → (u == t && ok u) ≡ (t == u && ok t)
        turned_test ok u t =
            elim (eqb_tells u t) [
              | inl same ↦ λ j. (Q.same_test u t j) && ok (same.1 j)
              | inr apart ↦ S.and_no _ _ apart.0 ∙ sym (S.and_no _ _ (Q.same_test t u ∙ apart.0))
            ]

    -- the charges of both strands, of values of the label between
    abbrev pub charges : ℕ → ℕ → ℕ → ℕ → (ℕ → E) → ℕ → E
    charges p a b y W q = total c.ring n (λ t. o (c.f p a b y t q) (W t))

    -- a braid of values of the label between
    abbrev pub act : (ℕ → ℕ → ℕ → E) → ℕ → ℕ → ℕ → ℕ → (ℕ → E) → ℕ → E
    act exchange p a b y W u = total c.ring n (λ t. o (braid_by c exchange p a b y t u) (W t))

    pub act_same : (exchange : ℕ → ℕ → ℕ → E) (p a b y : ℕ) (W W' : ℕ → E) → ((t : ℕ) → W t ≡ W' t) → (u : ℕ) → act exchange p a b y W u ≡ act exchange p a b y W' u
    act_same exchange p a b y W W' h u = S.total_same laws n _ _ (λ t _. ap (o (braid_by c exchange p a b y t u)) (h t))

    -- on a sum of multiples of H it is a product by charge
    pub act_sum : (exchange : ℕ → ℕ → ℕ → E) → IsExchange c exchange → (p a b y : ℕ) (C : ℕ → E) (u : ℕ)
        → act exchange p a b y (λ t. total c.ring n (λ q. o (c.h p a b y q t) (C q))) u ≡ total c.ring n (λ q. o (c.h p b a y q u) (o (exchange a b q) (C q)))
    act_sum exchange is p a b y C u =
        S.total_same laws n _ _ (λ t _. S.product-total laws n _ _)
        ∙ (S.total_swap laws n n _
        ∙ S.total_same laws n _ _ (λ q _. S.total_same laws n _ _ (λ t _. group _ _ _)
        ∙ (sym (S.product-total laws n (C q) _) ∙ (ap (o (C q)) (sym (P.braid_kernel c laws proper equations exchange is.off p a b y q u)) ∙ last _ _ _))))
      where
        group : (b h k : E) → o b (o h k) ≡ o k (o b h)
        group b h k = simp (laws.product_comm, S.product_left laws)

        last : (k r h : E) → o k (o r h) ≡ o h (o r k)
        last k r h = simp (laws.product_comm, S.product_left laws)

    -- a braid goes by the charges of what it is of
    pub act_is : (exchange : ℕ → ℕ → ℕ → E) → IsExchange c exchange → (p a b y : ℕ) (W : ℕ → E)
        → ((t : ℕ) → IsTrue (c.ring.member (W t))) → ((t : ℕ) → goes_left c p a b y t ≡ false → W t ≡ c.ring.zero)
        → (u : ℕ) → act exchange p a b y W u ≡ total c.ring n (λ q. o (c.h p b a y q u) (o (exchange a b q) (charges p a b y W q)))
    act_is exchange is p a b y W member none u =
        act_same exchange p a b y _ _ (λ t. expanded p a b y t W (member t) (none t)) u ∙ act_sum exchange is p a b y (charges p a b y W) u

    -- An exchange and its inverse change nothing.
    pub cancelled : (over under : ℕ → ℕ → ℕ → E) → IsExchange c over → IsExchange c under → ((a b q : ℕ) → c.fuse a b q ≡ true → o (under b a q) (over a b q) ≡ c.ring.one)
        → (p a b y : ℕ) (W : ℕ → E) → ((t : ℕ) → IsTrue (c.ring.member (W t))) → ((t : ℕ) → goes_left c p a b y t ≡ false → W t ≡ c.ring.zero)
        → (u : ℕ) → act under p b a y (act over p a b y W) u ≡ W u
    cancelled over under over_is under_is undoes p a b y W member none u =
        act_same under p b a y _ _ (act_is over over_is p a b y W member none) u
        ∙ (act_sum under under_is p b a y (λ q. o (over a b q) (charges p a b y W q)) u
        ∙ (S.total_same laws n _ _ (λ q _. undo q (S.true_or_false (c.fuse a b q)))
        ∙ sym (expanded p a b y u W (member u) (none u))))
      where
        undo : (q : ℕ) → (c.fuse a b q ≡ true) ⊎ (c.fuse a b q ≡ false)
            → o (c.h p a b y q u) (o (under b a q) (o (over a b q) (charges p a b y W q))) ≡ o (c.h p a b y q u) (charges p a b y W q)
        undo q (inl is) =
            ap (o (c.h p a b y q u)) (sym (laws.product_assoc _ _ _) ∙ (ap (λ m. o m (charges p a b y W q)) (undoes a b q is)
            ∙ (laws.product_comm _ _ ∙ laws.product-one _ (S.total_is laws n _))))
        undo q (inr isnt) =
            let gone : c.h p a b y q u ≡ c.ring.zero = Q.h_gone c laws proper p a b y q u _ isnt (λ h. h.bmf) in
            Q.left_none c laws proper _ _ gone ∙ sym (Q.left_none c laws proper _ _ gone)

    module _ (weighted : IsWeighted c) where
      -- the weight of values of the label between the strands a and b
      abbrev pub weight_between : ℕ → ℕ → ℕ → ℕ → (ℕ → E) → E
      weight_between p a b y W = total c.ring n (λ t. o (o (c.w p a t) (c.w t b y)) (o (W t) (conj (W t))))

      -- the weight of values of the charge of both
      abbrev pub weight_above : ℕ → ℕ → ℕ → ℕ → (ℕ → E) → E
      weight_above p a b y C = total c.ring n (λ q. o (o (c.w a b q) (c.w p q y)) (o (C q) (conj (C q))))

      -- the weight of a sum of multiples of H
      pub weight_spread : (p a b y : ℕ) (C : ℕ → E) → weight_between p a b y (λ t. total c.ring n (λ q. o (c.h p a b y q t) (C q))) ≡ weight_above p a b y C
      weight_spread p a b y C =
          S.total_same laws n _ _ (λ t _. spread t)
          ∙ (S.total_swap laws n n _
          ∙ S.total_same laws n _ _ (λ q l.
          S.total_swap laws n n _
          ∙ (S.total_same laws n _ _ (λ r _. sym (S.product-total laws n (o (C q) (conj (C r))) _) ∙ ap (o (o (C q) (conj (C r)))) (I.orthogonal c laws proper equations weighted p a b y q r))
          ∙ (S.one_term laws n q (λ r. o (o (C q) (conj (C r))) (o (o (c.w a b q) (c.w p q y)) (mark c (q == r))))
          (λ r _ ne. ap (o (o (C q) (conj (C r)))) (S.product-mark_no laws (q == r) _ (S.test_false q r (λ e. ne (sym e)))) ∙ laws.product-zero _) l (laws.product_is _ _)
          ∙ (ap (o (o (C q) (conj (C q)))) (S.product-mark_yes laws (q == q) _ (S.test_true q q refl) (laws.product_is _ _)) ∙ laws.product_comm _ _)))))
        where
          group : (w h k g m : E) → o w (o (o h k) (o g m)) ≡ o (o k m) (o w (o h g))
          group w h k g m = simp (laws.product_assoc, laws.product_comm, S.product_left laws)

          spread : (t : ℕ) → o (o (c.w p a t) (c.w t b y)) (o (total c.ring n (λ q. o (c.h p a b y q t) (C q))) (conj (total c.ring n (λ q. o (c.h p a b y q t) (C q)))))
              ≡ total c.ring n (λ q. total c.ring n (λ r. o (o (C q) (conj (C r))) (o (o (c.w p a t) (c.w t b y)) (o (c.h p a b y q t) (conj (c.h p a b y r t))))))
          spread t =
              ap (o (o (c.w p a t) (c.w t b y))) (S.total-product laws n (conj (total c.ring n (λ q. o (c.h p a b y q t) (C q)))) _)
              ∙ (S.product-total laws n _ _
              ∙ S.total_same laws n _ _ (λ q _.
              ap (λ z. o (o (c.w p a t) (c.w t b y)) (o (o (c.h p a b y q t) (C q)) z)) (I.total-conj c laws n _)
              ∙ (ap (o (o (c.w p a t) (c.w t b y))) (S.product-total laws n _ _)
              ∙ (S.product-total laws n _ _
              ∙ S.total_same laws n _ _ (λ r _. ap (λ z. o (o (c.w p a t) (c.w t b y)) (o (o (c.h p a b y q t) (C q)) z)) (laws.conjugate-product _ _) ∙ group _ _ _ _ _)))))

      -- the weight by charges
      pub weight_by_charges : (p a b y : ℕ) (W : ℕ → E)
          → ((t : ℕ) → IsTrue (c.ring.member (W t))) → ((t : ℕ) → goes_left c p a b y t ≡ false → W t ≡ c.ring.zero)
          → weight_between p a b y W ≡ weight_above p a b y (charges p a b y W)
      weight_by_charges p a b y W member none =
          S.total_same laws n _ _ (λ t _. λ j. o (o (c.w p a t) (c.w t b y)) (o (expanded p a b y t W (member t) (none t) j) (conj (expanded p a b y t W (member t) (none t) j))))
          ∙ weight_spread p a b y (charges p a b y W)

      -- An exchange keeps the weight.
      pub exchange_keeps : (exchange : ℕ → ℕ → ℕ → E) → IsExchange c exchange → (p a b y : ℕ) (W : ℕ → E)
          → ((t : ℕ) → IsTrue (c.ring.member (W t))) → ((t : ℕ) → goes_left c p a b y t ≡ false → W t ≡ c.ring.zero)
          → weight_between p b a y (act exchange p a b y W) ≡ weight_between p a b y W
      exchange_keeps exchange is p a b y W member none =
          let C : ℕ → E = charges p a b y W in
          let new = act_is exchange is p a b y W member none in
          S.total_same laws n _ _ (λ u _. λ j. o (o (c.w p b u) (c.w u a y)) (o (new u j) (conj (new u j))))
          ∙ (weight_spread p b a y (λ q. o (exchange a b q) (C q))
          ∙ (S.total_same laws n _ _ (λ q _.
          ap (λ z. o (o (c.w b a q) (c.w p q y)) (o (o (exchange a b q) (C q)) z)) (laws.conjugate-product _ _)
          ∙ (group _ _ _ _ _ _ ∙ ap (λ z. o (o z (c.w p q y)) (o (C q) (conj (C q)))) (is.norm a b q)))
          ∙ sym (weight_by_charges p a b y W member none)))
        where
          group : (w v r k s m : E) → o (o w v) (o (o r k) (o s m)) ≡ o (o (o (o r s) w) v) (o k m)
          group w v r k s m = simp (laws.product_assoc, laws.product_comm, S.product_left laws)

      -- what a projection on the charge q makes of values of the label between
      abbrev pub part : ℕ → ℕ → ℕ → ℕ → ℕ → (ℕ → E) → ℕ → E
      part q p a b y W u = total c.ring n (λ t. o (o (c.f p a b y t q) (c.h p a b y q u)) (W t))

      -- The charges share the weight.
      pub charges_share : (p a b y : ℕ) (W : ℕ → E)
          → ((t : ℕ) → IsTrue (c.ring.member (W t))) → ((t : ℕ) → goes_left c p a b y t ≡ false → W t ≡ c.ring.zero)
          → total c.ring n (λ q. weight_between p a b y (part q p a b y W)) ≡ weight_between p a b y W
      charges_share p a b y W member none =
          S.total_same laws n _ _ (λ q _. of_charge q) ∙ sym (weight_by_charges p a b y W member none)
        where
          out : (f h w : E) → o (o f h) w ≡ o h (o f w)
          out f h w = simp (laws.product_assoc, S.product_left laws)

          part_is : (q u : ℕ) → part q p a b y W u ≡ o (c.h p a b y q u) (charges p a b y W q)
          part_is q u = S.total_same laws n _ _ (λ t _. out _ _ _) ∙ sym (S.product-total laws n (c.h p a b y q u) _)

          group : (w h k g m : E) → o w (o (o h k) (o g m)) ≡ o (o k m) (o w (o h g))
          group w h k g m = simp (laws.product_assoc, laws.product_comm, S.product_left laws)

          of_charge : (q : ℕ) → weight_between p a b y (part q p a b y W) ≡ o (o (c.w a b q) (c.w p q y)) (o (charges p a b y W q) (conj (charges p a b y W q)))
          of_charge q =
              let C : E = charges p a b y W q in
              S.total_same laws n _ (λ u. o (o C (conj C)) (o (o (c.w p a u) (c.w u b y)) (o (c.h p a b y q u) (conj (c.h p a b y q u))))) (λ u _.
              (λ j. o (o (c.w p a u) (c.w u b y)) (o (part_is q u j) (conj (part_is q u j))))
              ∙ (ap (λ z. o (o (c.w p a u) (c.w u b y)) (o (o (c.h p a b y q u) C) z)) (laws.conjugate-product _ _) ∙ group _ _ _ _ _))
              ∙ (sym (S.product-total laws n (o C (conj C)) _)
              ∙ (ap (o (o C (conj C))) (I.orthogonal c laws proper equations weighted p a b y q q ∙ S.product-mark_yes laws (q == q) _ (S.test_true q q refl) (laws.product_is _ _))
              ∙ laws.product_comm _ _))
