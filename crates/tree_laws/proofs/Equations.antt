-- The fact on H that a recoupling rests on, from the equations of a category at all labels.
use Rattle.std.proofs.Common.{◌≡◌, ℕ, Bool, true, false, refl, ap, sym, ◌∙◌, arith, inl, inr, ◌⊎◌}
use Rattle.std.proofs.lemmas.Bool.{false≢true}
use Rattle.std.specs.Prelude.{◌==◌, ◌&&◌, IsTrue}
use Rattle.std.proofs.lemmas.Bool.Decides.{nat_tests}
use Rattle.ring_laws.specs.Ring.{Held, RingLaws}
use Rattle.ring_laws.specs.Sums.{total}
use Rattle.ring_laws.proofs.SumLemmas as S
use Rattle.symbol_table.specs.AllLabels.{IsProper, HasEquations, goes_left, goes_right, mark}
use Rattle.symbol_table.specs.Symbols.{Symbols, f_admissible}

-- F(a,b,m,d;e,f) is admissible where these four vertices are.
pub record HasF {E : Type 0} (c : Symbols E) (a b m d e f : ℕ) : Type 0 where
  pub abe : IsTrue (c.fuse a b e)
  pub emd : IsTrue (c.fuse e m d)
  pub bmf : IsTrue (c.fuse b m f)
  pub afd : IsTrue (c.fuse a f d)

and_true : (b c : Bool) → (b && c) ≡ true → (b ≡ true) × (c ≡ true)
and_true true c h = (refl, h)
and_true false c h = absurd (cc)

pub clash : (b : Bool) → b ≡ false → IsTrue b → ⊥
clash b e t = false≢true (sym e ∙ t)

pub first_of_both : (a b : Bool) → (a && b) ≡ true → IsTrue a
first_of_both a b e = (and_true a b e).0

pub second_of_both : (a b : Bool) → (a && b) ≡ true → IsTrue b
second_of_both a b e = (and_true a b e).1

pub same_test : (a b : ℕ) → (a == b) ≡ (b == a)
same_test a b = grind (arith, nat_tests)

pub either_off : (a b : Bool) → (a && b) ≡ false → (a ≡ false) ⊎ (b ≡ false)
either_off true b e = inr e
either_off false b e = inl refl

has_f : {E : Type 0} (c : Symbols E) (a b m d e f : ℕ) → f_admissible c.fuse a b m d e f ≡ true → HasF c a b m d e f
has_f c a b m d e f h =
    let one = and_true (c.fuse a b e) (c.fuse e m d && (c.fuse b m f && c.fuse a f d)) h in
    let two = and_true (c.fuse e m d) (c.fuse b m f && c.fuse a f d) one.1 in
    let three = and_true (c.fuse b m f) (c.fuse a f d) two.1 in
    record { abe = one.0; emd = two.0; bmf = three.0; afd = three.1 }

-- not admissible where a vertex isn't
off : {E : Type 0} (c : Symbols E) (a b m d e f : ℕ) (v : Bool) → v ≡ false → (HasF c a b m d e f → IsTrue v) → f_admissible c.fuse a b m d e f ≡ false
off c a b m d e f v none has =
    elim (S.true_or_false (f_admissible c.fuse a b m d e f)) [
      | inl is ↦ absurd (clash v none (has (has_f c a b m d e f is)))
      | inr isnt ↦ isnt
    ]

module _ {E : Type 0} (c : Symbols E) {K : Held E} (laws : RingLaws c.ring K) (proper : IsProper c) where
  abbrev n : ℕ
  n = c.count

  abbrev x : E → E → E
  x = c.ring.product

  abbrev left : ℕ → ℕ → ℕ → ℕ → ℕ → Bool
  left = goes_left c

  abbrev right : ℕ → ℕ → ℕ → ℕ → ℕ → Bool
  right = goes_right c

  pub left_none : (a b : E) → a ≡ c.ring.zero → x a b ≡ c.ring.zero
  left_none a b e = ap (λ y. x y b) e ∙ S.zero-product laws b

  pub right_none : (a b : E) → b ≡ c.ring.zero → x a b ≡ c.ring.zero
  right_none a b e = ap (x a) e ∙ laws.product-zero a

  pub f_gone : (a b m d e f : ℕ) (v : Bool) → v ≡ false → (HasF c a b m d e f → IsTrue v) → c.f a b m d e f ≡ c.ring.zero
  f_gone a b m d e f v none has = proper.f_off a b m d e f (off c a b m d e f v none has)

  pub h_gone : (a b m d f e : ℕ) (v : Bool) → v ≡ false → (HasF c a b m d e f → IsTrue v) → c.h a b m d f e ≡ c.ring.zero
  h_gone a b m d f e v none has = proper.h_off a b m d f e (off c a b m d e f v none has)

  pub off_first : (a b : E) (v w : Bool) → (v && w) ≡ false → (v ≡ false → x a b ≡ c.ring.zero) → (w ≡ false → x a b ≡ c.ring.zero) → x a b ≡ c.ring.zero
  off_first a b v w e f g = elim (either_off v w e) [ inl h ↦ f h | inr h ↦ g h ]

  pub h_left : (a b m d e f : ℕ) → left a b m d e ≡ false → c.h a b m d f e ≡ c.ring.zero
  h_left a b m d e f none =
      elim (either_off (c.fuse a b e) (c.fuse e m d) none) [ inl v ↦ h_gone a b m d f e _ v (λ h. h.abe) | inr v ↦ h_gone a b m d f e _ v (λ h. h.emd) ]

  pub h_right : (a b m d e f : ℕ) → right a b m d f ≡ false → c.h a b m d f e ≡ c.ring.zero
  h_right a b m d e f none =
      elim (either_off (c.fuse b m f) (c.fuse a f d) none) [ inl v ↦ h_gone a b m d f e _ v (λ h. h.bmf) | inr v ↦ h_gone a b m d f e _ v (λ h. h.afd) ]

  module _ (equations : HasEquations c) where
    -- the pentagon, solved for the two factors that share e
    pub two_f : (p l m r z y q e f : ℕ)
        → x (c.f p e r z y q) (c.f l m r q e f) ≡ total c.ring n (λ u. x (c.h p l m y e u) (x (c.f u m r z y f) (c.f p l f z u q)))
    two_f p l m r z y q e f =
        S.solved laws n e (right p l m y) (λ e u. c.h p l m y e u) (λ u e. c.f p l m y u e)
        (λ e. x (c.f p e r z y q) (c.f l m r q e f)) (λ u. x (c.f u m r z y f) (c.f p l f z u q))
        (λ g. equations.inverse_h p l m y e g)
        (laws.product_is _ _)
        (λ off. off_first _ _ _ _ off (λ v. right_none _ _ (f_gone l m r q e f _ v (λ h. h.abe))) (λ v. left_none _ _ (f_gone p e r z y q _ v (λ h. h.abe))))
        (λ on. (proper.labels l m e (first_of_both _ _ on)).2)
        (λ u. equations.pentagon p l m r u y z f q ∙ S.total_same laws n _ _ (λ e _. laws.product_assoc _ _ _))

    regroup : (a b d e g : E) → x (x a (x b d)) (x e g) ≡ x (x (x a b) g) (x d e)
    regroup a b d e g = simp (laws.product_assoc, laws.product_comm, S.product_left laws)

    -- over by F along q, for one f: what is left of the sum over q and that over u
    inner_f : (p l m r z y y' e u f : ℕ)
        → total c.ring n (λ q. x (x (c.f p e r z y' q) (c.f l m r q e f)) (x (c.h p l f z q u) (c.h u m r z f y)))
        ≡ x (x (c.h p l m y' e u) (c.f u m r z y' f)) (c.h u m r z f y)
    inner_f p l m r z y y' e u f =
        S.total_same laws n _ (λ q. total c.ring n (λ v. x (x (x (c.h p l m y' e v) (c.f v m r z y' f)) (c.h u m r z f y)) (x (c.f p l f z v q) (c.h p l f z q u))))
        (λ q _. ap (λ w. x w (x (c.h p l f z q u) (c.h u m r z f y))) (two_f p l m r z y' q e f)
        ∙ (S.total-product laws n _ _ ∙ S.total_same laws n _ _ (λ v _. regroup _ _ _ _ _)))
        ∙ (S.total_swap laws n n _
        ∙ (S.total_same laws n _ _ (λ v _. sym (S.product-total laws n _ _) ∙ ap (x (x (x (c.h p l m y' e v) (c.f v m r z y' f)) (c.h u m r z f y))) (equations.inverse_f p l f z v u))
        ∙ S.picked_at laws n u (left p l f z u) (λ v. x (x (c.h p l m y' e v) (c.f v m r z y' f)) (c.h u m r z f y)) (laws.product_is _ _)
        (λ off. left_none _ _ (off_first _ _ _ _ off (λ w. left_none _ _ (h_gone p l m y' e u _ w (λ h. h.abe))) (λ w. right_none _ _ (f_gone u m r z y' f _ w (λ h. h.afd)))))
        (λ on. (proper.labels p l u (first_of_both _ _ on)).2)))

    -- then along f
    inner : (p l m r z y y' e u : ℕ)
        → total c.ring n (λ q. x (c.f p e r z y' q) (total c.ring n (λ f. x (c.f l m r q e f) (x (c.h p l f z q u) (c.h u m r z f y)))))
        ≡ x (c.h p l m y' e u) (mark c (y == y' && left u m r z y))
    inner p l m r z y y' e u =
        S.total_same laws n _ _ (λ q _. S.product-total laws n _ _ ∙ S.total_same laws n _ _ (λ f _. sym (laws.product_assoc _ _ _)))
        ∙ (S.total_swap laws n n _
        ∙ (S.total_same laws n _ _ (λ f _. inner_f p l m r z y y' e u f ∙ laws.product_assoc _ _ _)
        ∙ (sym (S.product-total laws n _ _) ∙ ap (x (c.h p l m y' e u)) (equations.inverse_f u m r z y' y))))

    -- two factors H that share e, by F
    pub two_h : (p l m r z y q e u : ℕ)
        → x (c.h p e r z q y) (c.h p l m y e u) ≡ total c.ring n (λ f. x (c.f l m r q e f) (x (c.h p l f z q u) (c.h u m r z f y)))
    two_h p l m r z y q e u =
        sym (S.picked_at laws n y (left u m r z y) (λ y'. x (c.h p e r z q y') (c.h p l m y' e u)) (laws.product_is _ _)
        (λ off. off_first _ _ _ _ off (λ w. right_none _ _ (h_gone p l m y e u _ w (λ h. h.emd))) (λ w. left_none _ _ (h_gone p e r z q y _ w (λ h. h.emd))))
        (λ on. (proper.labels u m y (first_of_both _ _ on)).2))
        ∙ (S.total_same laws n _ _ (λ y' _. laws.product_assoc _ _ _ ∙ ap (x (c.h p e r z q y')) (sym (inner p l m r z y y' e u)))
        ∙ S.over_and_back laws n q (right p e r z) (λ q y'. c.h p e r z q y') (λ y' q. c.f p e r z y' q)
        (λ q. total c.ring n (λ f. x (c.f l m r q e f) (x (c.h p l f z q u) (c.h u m r z f y))))
        (λ g. equations.inverse_h p e r z q g)
        (S.total_is laws n _)
        (λ off. S.total_none laws n _ (λ f _. off_first _ _ _ _ off (λ w. left_none _ _ (f_gone l m r q e f _ w (λ h. h.emd))) (λ w. right_none _ _ (left_none _ _ (h_gone p l f z q u _ w (λ h. h.afd))))))
        (λ on. (proper.labels e r q (first_of_both _ _ on)).2))

    -- The fact on H: an amplitude's two factors at p(A,k(B,C)), by those at k'(p'(A,B),C).
    pub recoupled : (p a b m z d u f y : ℕ)
        → x (c.h p a f z d u) (c.h u b m z f y) ≡ total c.ring n (λ e. x (c.h a b m d f e) (x (c.h p e m z d y) (c.h p a b y e u)))
    recoupled p a b m z d u f y =
        S.solved laws n f (right a b m d) (λ f e. c.h a b m d f e) (λ e f. c.f a b m d e f)
        (λ f. x (c.h p a f z d u) (c.h u b m z f y)) (λ e. x (c.h p e m z d y) (c.h p a b y e u))
        (λ g. equations.inverse_h a b m d f g)
        (laws.product_is _ _)
        (λ off. off_first _ _ _ _ off (λ w. right_none _ _ (h_gone u b m z f y _ w (λ h. h.bmf))) (λ w. left_none _ _ (h_gone p a f z d u _ w (λ h. h.bmf))))
        (λ on. (proper.labels b m f (first_of_both _ _ on)).2)
        (λ e. two_h p a b m z y d e u)
