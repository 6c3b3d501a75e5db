-- What is inverse to what in a category: S(b,a,c) to R(a,b,c), and the mirrored twist of a label to its twist.
use Rattle.std.proofs.Common.{◌≡◌, ℕ, ◌<◌, Bool, true, false, ◌||◌, ◌==◌, [], ◌∷◌, refl, ap, sym, ◌∙◌, inl, inr}
use Rattle.std.specs.Prelude.{IsTrue}
use Rattle.std.proofs.lemmas.List.Elements.{All-from_recursion}
use Rattle.ring_laws.specs.Ring.{Held, RingLaws}
use Rattle.ring_laws.proofs.SumLemmas as S
use Rattle.symbol_table.specs.Index.{AreThreeLabels}
use Rattle.symbol_table.specs.Symbols.{Symbols}
use Rattle.symbol_table.specs.Laws.{IsLawful}
use Rattle.symbol_table.specs.AllLabels.{HasUnit, IsProper, IsWeighted}
use Rattle.symbol_table.specs.declared.law.Law.TheVariants.{UnitTwist, Twist}
use Rattle.symbol_table.proofs.LawLemmas.{obeys}
use Rattle.image_laws.specs.Mirrors.{dual_in, mirrored_twist}
use Rattle.image_laws.proofs.DualLemmas.{dual_fuses}

module _ {E : Type 0} (c : Symbols E) {K : Held E} (laws : RingLaws c.ring K) where
  abbrev o : E → E → E
  o = c.ring.product

  abbrev conj : E → E
  conj = c.ring.conjugate

  abbrev is : E → Type 0
  is x = IsTrue (c.ring.member x)

  one_left : (x : E) → is x → o c.ring.one x ≡ x
  one_left x m = laws.product_comm c.ring.one x ∙ laws.product-one x m

  -- an inverse is unique
  pub inverse_alone : (x y z : E) → is x → is y → o x z ≡ c.ring.one → o y z ≡ c.ring.one → x ≡ y
  inverse_alone x y z in_x in_y xz yz =
      sym (laws.product-one x in_x) ∙ ap (o x) (sym yz) ∙ S.product_left laws x y z ∙ ap (o y) xz ∙ laws.product-one y in_y

  conj-one : conj c.ring.one ≡ c.ring.one
  conj-one =
      sym (laws.product-one _ (laws.conjugate_is c.ring.one))
      ∙ ap (o (conj c.ring.one)) (sym (laws.conjugate-conjugate c.ring.one laws.one_is))
      ∙ sym (laws.conjugate-product c.ring.one (conj c.ring.one))
      ∙ ap conj (one_left (conj c.ring.one) (laws.conjugate_is c.ring.one))
      ∙ laws.conjugate-conjugate c.ring.one laws.one_is

  -- R(a,b,c) R(b,a,c) theta_a theta_b = theta_c, and the same of the inverses
  pub inverse_twist : (r r' s s' ta tb te ua ub ue : E) → is ue → o r s' ≡ c.ring.one → o r' s ≡ c.ring.one → o ua ta ≡ c.ring.one → o ub tb ≡ c.ring.one → o ue te ≡ c.ring.one
      → o (o (o r r') ta) tb ≡ te → o (o (o s s') ua) ub ≡ ue
  inverse_twist r r' s s' ta tb te ua ub ue in_ue rs rs' at_a at_b at_e law =
      inverse_alone (o (o (o s s') ua) ub) ue te (laws.product_is _ _) in_ue
      (ap (o (o (o (o s s') ua) ub)) (sym law) ∙ regroup ∙ (λ j. o (o (o (rs j) (rs' j)) (at_a j)) (at_b j))
      ∙ ap (λ x. o (o x c.ring.one) c.ring.one) (laws.product-one c.ring.one laws.one_is)
      ∙ ap (λ x. o x c.ring.one) (laws.product-one c.ring.one laws.one_is) ∙ laws.product-one c.ring.one laws.one_is)
      at_e
    where
      regroup : o (o (o (o s s') ua) ub) (o (o (o r r') ta) tb) ≡ o (o (o (o r s') (o r' s)) (o ua ta)) (o ub tb)
      regroup = simp (laws.product_assoc, laws.product_comm, S.product_left laws)

  -- theta_1 = 1
  pub unit_twist : IsLawful c → c.version ≡ 2 → 0 < c.count → c.twist 0 ≡ c.ring.one
  unit_twist lawful second some = obeys c lawful UnitTwist second (0 ∷ []) refl (All-from_recursion (λ t. t < c.count) (0 ∷ []) (some, tt)) refl

  -- R(a,b,e) R(b,a,e) theta_a theta_b = theta_e where a and b make e
  pub twist_at : IsLawful c → c.version ≡ 2 → (a b e : ℕ) → AreThreeLabels c.count a b e → c.fuse a b e ≡ true
      → o (o (o (c.r a b e) (c.r b a e)) (c.twist a)) (c.twist b) ≡ c.twist e
  twist_at lawful second a b e low on =
      obeys c lawful Twist second (a ∷ b ∷ e ∷ []) refl (All-from_recursion (λ t. t < c.count) (a ∷ b ∷ e ∷ []) (low.0, (low.1, (low.2, tt)))) (rw on refl)

  -- the mirrored twist of a label is the inverse of its twist
  pub turned_back : IsLawful c → c.version ≡ 2 → 0 < c.count → ((a b e : ℕ) → c.fuse a b e ≡ true → AreThreeLabels c.count a b e) → (a : ℕ) → a < c.count
      → o (mirrored_twist c a) (c.twist a) ≡ c.ring.one
  turned_back lawful second some labels a below =
      let dual = dual_in c a in
      let on : c.fuse a dual 0 ≡ true = dual_fuses c.count c.fuse lawful.rules a below in
      turned (o (c.r a dual 0) (c.r dual a 0)) (c.twist dual) (c.twist a)
      ∙ twist_at lawful second a dual 0 (labels a dual 0 on) on ∙ unit_twist lawful second some
    where
      turned : (x y z : E) → o (o x y) z ≡ o (o x z) y
      turned x y z = simp (laws.product_assoc, laws.product_comm)

  module _ (proper : IsProper c) (weighted : IsWeighted c) where
    pub other_way : (a b e : ℕ) → c.fuse a b e ≡ true → c.fuse b a e ≡ true
    other_way a b e on = sym (proper.commutes a b e) ∙ on

    -- S(b,a,e) is the inverse of R(a,b,e)
    pub undoes : (a b e : ℕ) → c.fuse a b e ≡ true → o (c.r a b e) (c.s b a e) ≡ c.ring.one
    undoes a b e on =
        let w = c.w a b e in
        let v = c.v a b e in
        let s = c.s b a e in
        let r = c.r a b e in
        let there : o w (o s r) ≡ w =
        sym (laws.product_assoc w s r) ∙ (ap (λ y. o y r) (weighted.adjoint_r b a e) ∙ (turn (c.w b a e) (conj r) r ∙ weighted.norm_r a b e)) in
        laws.product_comm r s
        ∙ (sym (laws.product-one _ (laws.product_is s r))
        ∙ (ap (o (o s r)) (sym (weighted.inverse a b e on)) ∙ (past w v (o s r) ∙ (ap (λ y. o y v) there ∙ weighted.inverse a b e on))))
      where
        turn : (w k r : E) → o (o w k) r ≡ o (o r k) w
        turn w k r = simp (laws.product_assoc, laws.product_comm, S.product_left laws)

        past : (w v x : E) → o x (o w v) ≡ o (o w x) v
        past w v x = simp (laws.product_assoc, laws.product_comm, S.product_left laws)

    -- R is the formula of S for S
    pub r_again : (a b e : ℕ) → c.fuse a b e ≡ true → o (o (conj (c.s b a e)) (c.w a b e)) (c.v b a e) ≡ c.r a b e
    r_again a b e on =
        let w = c.w a b e in
        let back = c.w b a e in
        let adjoint : o w (conj (c.s b a e)) ≡ o back (c.r a b e) =
        ap (λ y. o y (conj (c.s b a e))) (sym (weighted.real a b e)) ∙ sym (laws.conjugate-product w (c.s b a e))
        ∙ ap conj (weighted.adjoint_r b a e)
        ∙ laws.conjugate-product back (conj (c.r a b e))
        ∙ (λ j. o (weighted.real b a e j) (laws.conjugate-conjugate (c.r a b e) (proper.r_is a b e) j)) in
        ap (λ y. o y (c.v b a e)) (laws.product_comm (conj (c.s b a e)) w ∙ adjoint)
        ∙ turn back (c.r a b e) (c.v b a e)
        ∙ ap (o (c.r a b e)) (weighted.inverse b a e (other_way a b e on))
        ∙ laws.product-one (c.r a b e) (proper.r_is a b e)
      where
        turn : (w r v : E) → o (o w r) v ≡ o r (o w v)
        turn w r v = simp (laws.product_assoc, laws.product_comm, S.product_left laws)

    -- S keeps the weights
    pub norm_s : (a b e : ℕ) → o (o (c.s a b e) (conj (c.s a b e))) (c.w b a e) ≡ c.w a b e
    norm_s a b e =
        elim (S.true_or_false (c.fuse a b e)) [
          | inl on ↦
              turn (c.s a b e) (conj (c.s a b e)) (c.w b a e)
              ∙ (ap (λ y. o y (conj (c.s a b e))) (weighted.adjoint_r a b e)
              ∙ (laws.product_assoc _ _ _
              ∙ (ap (o (c.w a b e)) (sym (laws.conjugate-product (c.r b a e) (c.s a b e)) ∙ (ap conj (undoes b a e (other_way a b e on)) ∙ conj-one))
              ∙ laws.product-one _ (proper.w_is a b e))))
          | inr off ↦
              ap (o (o (c.s a b e) (conj (c.s a b e)))) (proper.w_off b a e (sym (proper.commutes a b e) ∙ off)) ∙ laws.product-zero _ ∙ sym (proper.w_off a b e off)
        ]
      where
        turn : (s k w : E) → o (o s k) w ≡ o (o w s) k
        turn s k w = simp (laws.product_assoc, laws.product_comm)

    pub unit_s : HasUnit c → (a b e : ℕ) → c.fuse a b e ≡ true → (a == 0 || b == 0) ≡ true → c.s a b e ≡ c.ring.one
    unit_s unit a b e on so =
        let on' = other_way a b e on in
        sym (one_left (c.s a b e) (proper.s_is a b e))
        ∙ ap (λ y. o y (c.s a b e)) (sym (unit.r b a e on' (turned (a == 0) (b == 0) ∙ so)))
        ∙ undoes b a e on'
      where
        turned : (x y : Bool) → (y || x) ≡ (x || y)
        turned true true = refl
        turned true false = refl
        turned false true = refl
        turned false false = refl
