-- Braids of three strands, on the two labels between them.
use Rattle.std.proofs.Common.{◌≡◌, ℕ, false, ap, sym, ◌∙◌, inl, inr}
use Rattle.std.specs.Prelude.{IsTrue}
use Rattle.ring_laws.specs.Ring.{Held, RingLaws}
use Rattle.ring_laws.specs.Sums.{total}
use Rattle.ring_laws.proofs.SumLemmas as S
use Rattle.symbol_table.specs.AllLabels.{IsProper, HasEquations, goes_left, goes_right}
use Rattle.symbol_table.specs.Symbols.{Symbols}
use Rattle.tree_laws.specs.Operators.{braid_by}
use Rattle.tree_laws.proofs.Equations as Q
use Rattle.tree_laws.proofs.Pairs as P
use Rattle.path_laws.proofs.OneLabel.{IsExchange}
use Rattle.path_laws.proofs.OneLabel as L

module _ {E : Type 0} (c : Symbols E) {K : Held E} (laws : RingLaws c.ring K) (proper : IsProper c) (equations : HasEquations c) (exchange : ℕ → ℕ → ℕ → E) (is : IsExchange c exchange) where
  abbrev o : E → E → E
  o = c.ring.product

  abbrev n : ℕ
  n = c.count

  -- the hexagon, solved for its right side
  hexagon_solved : (a b m d f g : ℕ) → o (exchange a f d) (c.f b m a d f g)
      ≡ total c.ring n (λ e. o (c.h a b m d f e) (o (o (exchange a b e) (c.f b a m d e g)) (exchange a m g)))
  hexagon_solved a b m d f g =
      S.solved laws n f (goes_right c a b m d) (λ f e. c.h a b m d f e) (λ e f. c.f a b m d e f)
      (λ f. o (exchange a f d) (c.f b m a d f g)) (λ e. o (o (exchange a b e) (c.f b a m d e g)) (exchange a m g))
      (λ h. equations.inverse_h a b m d f h)
      (laws.product_is _ _)
      (λ none. Q.off_first c laws proper _ _ _ _ none (λ w. Q.right_none c laws proper _ _ (Q.f_gone c laws proper b m a d f g _ w (λ h. h.abe))) (λ w. Q.left_none c laws proper _ _ (is.off a f d w)))
      (λ on. (proper.labels b m f (Q.first_of_both _ _ on)).2)
      (λ e. is.hexagon a b m d e g ∙ S.total_same laws n _ _ (λ h _. laws.product_assoc _ _ _))

  -- values of the two labels between three strands
  abbrev pub Two : Type 0
  Two = ℕ → ℕ → E

  -- the braid of the first two strands, after the label p, and of the last two, before the label z
  abbrev pub one : ℕ → ℕ → ℕ → Two → Two
  one p a b w u y = total c.ring n (λ t. o (braid_by c exchange p a b y t u) (w t y))

  abbrev pub two : ℕ → ℕ → ℕ → Two → Two
  two z b m w u y = total c.ring n (λ t. o (braid_by c exchange u b m z t y) (w u t))

  -- the amplitudes of a (b m) and of (a b) m
  abbrev of_right : ℕ → ℕ → ℕ → ℕ → ℕ → ℕ → ℕ → Two
  of_right p z a b m f d u y = o (c.h p a f z d u) (c.h u b m z f y)

  abbrev of_left : ℕ → ℕ → ℕ → ℕ → ℕ → ℕ → ℕ → Two
  of_left p z a b m e d u y = o (c.h p e m z d y) (c.h p a b y e u)

  right_is : (p z a b m f d u y : ℕ) → of_right p z a b m f d u y ≡ total c.ring n (λ e. o (c.h a b m d f e) (of_left p z a b m e d u y))
  right_is p z a b m f d u y = Q.recoupled c laws proper equations p a b m z d u f y

  left_is : (p z a b m e d u y : ℕ) → of_left p z a b m e d u y ≡ total c.ring n (λ f. o (c.f a b m d e f) (of_right p z a b m f d u y))
  left_is p z a b m e d u y = Q.two_h c laws proper equations p a b m z y d e u

  one_left : (p z a b m e d u y : ℕ) → one p a b (of_left p z a b m e d) u y ≡ o (exchange a b e) (of_left p z b a m e d u y)
  one_left p z a b m e d u y =
      S.total_same laws n _ _ (λ t _. S.product_left laws _ _ _)
      ∙ (sym (S.product-total laws n _ _) ∙ (ap (o (c.h p e m z d y)) (sym (P.braid_kernel c laws proper equations exchange is.off p a b y e u)) ∙ S.product_left laws _ _ _))

  two_right : (p z a b m f d u y : ℕ) → two z b m (of_right p z a b m f d) u y ≡ o (exchange b m f) (of_right p z a m b f d u y)
  two_right p z a b m f d u y =
      S.total_same laws n _ _ (λ t _. S.product_left laws _ _ _)
      ∙ (sym (S.product-total laws n _ _) ∙ (ap (o (c.h p a f z d u)) (sym (P.braid_kernel c laws proper equations exchange is.off u b m z f y)) ∙ S.product_left laws _ _ _))

  -- both braids are linear
  one_same : (p a b : ℕ) (w w' : Two) → ((u y : ℕ) → w u y ≡ w' u y) → (u y : ℕ) → one p a b w u y ≡ one p a b w' u y
  one_same p a b w w' h u y = S.total_same laws n _ _ (λ t _. ap (o (braid_by c exchange p a b y t u)) (h t y))

  two_same : (z b m : ℕ) (w w' : Two) → ((u y : ℕ) → w u y ≡ w' u y) → (u y : ℕ) → two z b m w u y ≡ two z b m w' u y
  two_same z b m w w' h u y = S.total_same laws n _ _ (λ t _. ap (o (braid_by c exchange u b m z t y)) (h u t))

  -- a sum with factors under another sum with factors
  under : (B g : ℕ → E) (W : ℕ → ℕ → E)
      → total c.ring n (λ t. o (B t) (total c.ring n (λ k. o (g k) (W k t)))) ≡ total c.ring n (λ k. o (g k) (total c.ring n (λ t. o (B t) (W k t))))
  under B g W =
      S.total_same laws n _ _ (λ t _. S.product-total laws n (B t) _ ∙ S.total_same laws n _ _ (λ k _. S.product_left laws _ _ _))
      ∙ (S.total_swap laws n n _ ∙ S.total_same laws n _ _ (λ k _. sym (S.product-total laws n (g k) _)))

  one_sum : (p a b : ℕ) (g : ℕ → E) (W : ℕ → Two) (u y : ℕ)
      → one p a b (λ u y. total c.ring n (λ k. o (g k) (W k u y))) u y ≡ total c.ring n (λ k. o (g k) (one p a b (W k) u y))
  one_sum p a b g W u y = under (λ t. braid_by c exchange p a b y t u) g (λ k t. W k t y)

  two_sum : (z b m : ℕ) (g : ℕ → E) (W : ℕ → Two) (u y : ℕ)
      → two z b m (λ u y. total c.ring n (λ k. o (g k) (W k u y))) u y ≡ total c.ring n (λ k. o (g k) (two z b m (W k) u y))
  two_sum z b m g W u y = under (λ t. braid_by c exchange u b m z t y) g (λ k t. W k u t)

  two_by : (z b m : ℕ) (g : E) (w : Two) (u y : ℕ) → two z b m (λ u y. o g (w u y)) u y ≡ o g (two z b m w u y)
  two_by z b m g w u y = S.total_same laws n _ _ (λ t _. S.product_left laws _ _ _) ∙ sym (S.product-total laws n g _)

  one_by : (p a b : ℕ) (g : E) (w : Two) (u y : ℕ) → one p a b (λ u y. o g (w u y)) u y ≡ o g (one p a b w u y)
  one_by p a b g w u y = S.total_same laws n _ _ (λ t _. S.product_left laws _ _ _) ∙ sym (S.product-total laws n g _)

  -- one strand past a pair is one product
  past : (p z a b m f d u y : ℕ) → two z a m (one p a b (of_right p z a b m f d)) u y ≡ o (exchange a f d) (of_left p z b m a f d u y)
  past p z a b m f d u y =
      two_same z a m _ _ (λ u y. one_same p a b _ _ (λ u y. right_is p z a b m f d u y) u y
      ∙ (one_sum p a b (λ e. c.h a b m d f e) (λ e. of_left p z a b m e d) u y
      ∙ S.total_same laws n _ _ (λ e _. ap (o (c.h a b m d f e)) (one_left p z a b m e d u y)))) u y
      ∙ (two_sum z a m (λ e. c.h a b m d f e) (λ e u y. o (exchange a b e) (of_left p z b a m e d u y)) u y
      ∙ (S.total_same laws n _ _ (λ e _. ap (o (c.h a b m d f e)) (at_e e))
      ∙ (S.total_same laws n _ _ (λ e _. S.product-total laws n _ _ ∙ S.total_same laws n _ _ (λ g _. sym (laws.product_assoc _ _ _)))
      ∙ (S.total_swap laws n n _
      ∙ (S.total_same laws n _ _ (λ g _. sym (S.total-product laws n (of_right p z b m a g d u y) _) ∙ (ap (λ v. o v (of_right p z b m a g d u y)) (sym (hexagon_solved a b m d f g)) ∙ laws.product_assoc _ _ _))
      ∙ (sym (S.product-total laws n (exchange a f d) _) ∙ ap (o (exchange a f d)) (sym (left_is p z b m a f d u y))))))))
    where
      at_e : (e : ℕ) → two z a m (λ u y. o (exchange a b e) (of_left p z b a m e d u y)) u y
          ≡ total c.ring n (λ g. o (o (o (exchange a b e) (c.f b a m d e g)) (exchange a m g)) (of_right p z b m a g d u y))
      at_e e =
          two_by z a m (exchange a b e) (of_left p z b a m e d) u y
          ∙ (ap (o (exchange a b e)) (two_same z a m _ _ (λ u y. left_is p z b a m e d u y) u y
          ∙ (two_sum z a m (λ g. c.f b a m d e g) (λ g. of_right p z b a m g d) u y
          ∙ S.total_same laws n _ _ (λ g _. ap (o (c.f b a m d e g)) (two_right p z b a m g d u y))))
          ∙ (S.product-total laws n _ _ ∙ S.total_same laws n _ _ (λ g _. group _ _ _ _)))
        where
          group : (r f s w : E) → o r (o f (o s w)) ≡ o (o (o r f) s) w
          group r f s w = simp laws.product_assoc

  -- An operator that goes into sums with factors.
  record Linear (op : Two → Two) : Type 0 where
    same : (w w' : Two) → ((u y : ℕ) → w u y ≡ w' u y) → (u y : ℕ) → op w u y ≡ op w' u y
    sums : (V : ℕ → ℕ → E) (A : ℕ → ℕ → Two) (u y : ℕ)
        → op (λ u y. total c.ring n (λ f. total c.ring n (λ d. o (V f d) (A f d u y)))) u y
        ≡ total c.ring n (λ f. total c.ring n (λ d. o (V f d) (op (A f d) u y)))

  under_two : (B : ℕ → E) (V : ℕ → ℕ → E) (W : ℕ → ℕ → ℕ → E)
      → total c.ring n (λ t. o (B t) (total c.ring n (λ f. total c.ring n (λ d. o (V f d) (W f d t)))))
      ≡ total c.ring n (λ f. total c.ring n (λ d. o (V f d) (total c.ring n (λ t. o (B t) (W f d t)))))
  under_two B V W =
      S.total_same laws n _ _ (λ t _. S.product-total laws n (B t) _)
      ∙ (S.total_swap laws n n _ ∙ S.total_same laws n _ _ (λ f _. under B (V f) (W f)))

  one_linear : (p a b : ℕ) → Linear (one p a b)
  one_linear p a b = record {
    same = one_same p a b;
    sums = λ V A u y. under_two (λ t. braid_by c exchange p a b y t u) V (λ f d t. A f d t y);
  }

  two_linear : (z b m : ℕ) → Linear (two z b m)
  two_linear z b m = record {
    same = two_same z b m;
    sums = λ V A u y. under_two (λ t. braid_by c exchange u b m z t y) V (λ f d t. A f d u t);
  }

  both_linear : (f g : Two → Two) → Linear f → Linear g → Linear (λ w. f (g w))
  both_linear f g lf lg = record {
    same = λ w w' h. lf.same (g w) (g w') (lg.same w w' h);
    sums = λ V A u y. lf.same _ _ (lg.sums V A) u y ∙ lf.sums V (λ i j. g (A i j)) u y;
  }

  -- the two orders, on the amplitudes of a (b m)
  first_order : (p z a b m f d u y : ℕ)
      → one p b m (two z a m (one p a b (of_right p z a b m f d))) u y ≡ o (exchange a f d) (o (exchange b m f) (of_left p z m b a f d u y))
  first_order p z a b m f d u y =
      one_same p b m _ _ (past p z a b m f d) u y
      ∙ (one_by p b m (exchange a f d) (of_left p z b m a f d) u y ∙ ap (o (exchange a f d)) (one_left p z b m a f d u y))

  second_order : (p z a b m f d u y : ℕ)
      → two z a b (one p a m (two z b m (of_right p z a b m f d))) u y ≡ o (exchange b m f) (o (exchange a f d) (of_left p z m b a f d u y))
  second_order p z a b m f d u y =
      two_same z a b _ _ (λ u y. one_same p a m _ _ (two_right p z a b m f d) u y ∙ one_by p a m (exchange b m f) (of_right p z a m b f d) u y) u y
      ∙ (two_by z a b (exchange b m f) (one p a m (of_right p z a m b f d)) u y ∙ ap (o (exchange b m f)) (past p z a m b f d u y))

  -- Three strands are reversed the same in either order, on values that are zero where no path goes.
  pub either_order : (p z a b m : ℕ) (w : Two) → ((u y : ℕ) → IsTrue (c.ring.member (w u y)))
      → ((u y : ℕ) → c.fuse p a u ≡ false → w u y ≡ c.ring.zero)
      → ((u y : ℕ) → c.fuse u b y ≡ false → w u y ≡ c.ring.zero)
      → ((u y : ℕ) → c.fuse y m z ≡ false → w u y ≡ c.ring.zero)
      → (u y : ℕ) → one p b m (two z a m (one p a b w)) u y ≡ two z a b (one p a m (two z b m w)) u y
  either_order p z a b m w member none_a none_b none_m u y =
      let first : Linear (λ w. one p b m (two z a m (one p a b w))) =
      both_linear (one p b m) (λ w. two z a m (one p a b w)) (one_linear p b m) (both_linear (two z a m) (one p a b) (two_linear z a m) (one_linear p a b)) in
      let second : Linear (λ w. two z a b (one p a m (two z b m w))) =
      both_linear (two z a b) (λ w. one p a m (two z b m w)) (two_linear z a b) (both_linear (one p a m) (two z b m) (one_linear p a m) (two_linear z b m)) in
      first.same w spread spread_is u y
      ∙ (first.sums V (of_right p z a b m) u y
      ∙ (S.total_same laws n _ _ (λ f _. S.total_same laws n _ _ (λ d _. ap (o (V f d)) (first_order p z a b m f d u y ∙ (S.product_left laws _ _ _ ∙ sym (second_order p z a b m f d u y)))))
      ∙ (sym (second.sums V (of_right p z a b m) u y) ∙ sym (second.same w spread spread_is u y))))
    where
      W : ℕ → ℕ → E
      W f u = L.charges c laws proper equations u b m z (w u) f

      V : ℕ → ℕ → E
      V f d = L.charges c laws proper equations p a f z (W f) d

      spread : Two
      spread u y = total c.ring n (λ f. total c.ring n (λ d. o (V f d) (of_right p z a b m f d u y)))

      W_none : (f u : ℕ) → goes_left c p a f z u ≡ false → W f u ≡ c.ring.zero
      W_none f u h = S.total_none laws n _ (λ s _. Q.off_first c laws proper _ _ _ _ h
          (λ e. Q.right_none c laws proper _ _ (none_a u s e)) (λ e. Q.left_none c laws proper _ _ (Q.f_gone c laws proper u b m z s f _ e (λ h. h.afd))))

      w_none : (u y : ℕ) → goes_left c u b m z y ≡ false → w u y ≡ c.ring.zero
      w_none u y h = elim (Q.either_off _ _ h) [ inl e ↦ none_b u y e | inr e ↦ none_m u y e ]

      group : (h k v : E) → o h (o k v) ≡ o v (o k h)
      group h k v = simp (laws.product_comm, S.product_left laws)

      spread_is : (u y : ℕ) → w u y ≡ spread u y
      spread_is u y =
          L.expanded c laws proper equations u b m z y (w u) (member u y) (w_none u y)
          ∙ S.total_same laws n _ _ (λ f _. ap (o (c.h u b m z f y)) (L.expanded c laws proper equations p a f z u (W f) (S.total_is laws n _) (W_none f u))
          ∙ (S.product-total laws n _ _ ∙ S.total_same laws n _ _ (λ d _. group _ _ _)))
