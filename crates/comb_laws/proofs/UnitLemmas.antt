-- What the unit of a category does: its triples, its weights, and H from it.
use Rattle.std.proofs.Common.{◌≡◌, ℕ, ◌<◌, Bool, true, [], ◌∷◌, refl, ap, sym, ◌∙◌, arith, inl, inr}
use Rattle.std.specs.Prelude.{if◌then◌else◌, ◌&&◌, ◌==◌, IsTrue, All}
use Rattle.std.proofs.lemmas.List.Elements.{All-from_recursion}
use Rattle.std.proofs.lemmas.Bool.Decides.{eqb_tells, nat_tests}
use Rattle.ring_laws.specs.Ring.{Ring, Held, RingLaws}
use Rattle.ring_laws.proofs.SumLemmas.{if_no, if_yes, and_no, and_yes, and_right}
use Rattle.fusion_rules.specs.Fusion.{Fusion, AreRules, fuses}
use Rattle.symbol_table.specs.Symbols.{Symbols, f_admissible}
use Rattle.symbol_table.specs.Draft.{DraftValue}
use Rattle.symbol_table.specs.Laws.{IsLawful}
use Rattle.symbol_table.proofs.LawLemmas.{obeys}
use Rattle.symbol_table.proofs.RuleLemmas.{fuse_labels, unit_left}
use Rattle.symbol_table.specs.Category.{draft_symbols}
use Rattle.symbol_table.specs.declared.law.Law.TheVariants.{UnitF, UnitW, InverseW}

-- one where a test is true, else zero
abbrev pub mark : {E : Type 0} → Ring E → Bool → E
mark r b = if b then r.one else r.zero

-- Only labels fuse; the unit times a label is that label; its weights are one, and so is H from it.
pub record IsUnital {E : Type 0} (c : Symbols E) : Type 0 where
  pub some : 0 < c.count
  pub labels : (a b e : ℕ) → c.fuse a b e ≡ true → (a < c.count) × (b < c.count) × (e < c.count)
  pub unit : (b e : ℕ) → b < c.count → c.fuse 0 b e ≡ (b == e)
  pub weight : (b e : ℕ) → c.fuse 0 b e ≡ true → c.w 0 b e ≡ c.ring.one
  pub h : (l r e q f : ℕ) → c.fuse l r q ≡ true → c.h 0 l r e q f ≡ mark c.ring (l == f && q == e)

-- the rules of a draft
module _ (g : Fusion) (rules : AreRules g) where
  -- the unit times a label is that label
  pub unit_times : (a : ℕ) → a < g.count → fuses g 0 a a ≡ true
  unit_times a low = unit_left g rules a a low ∙ same
    where
      same : (a == a) ≡ true
      same = grind (arith, nat_tests)

-- values of a ring
module _ {E : Type 0} {R : Ring E} {H : Held E} (laws : RingLaws R H) where
  abbrev x : E → E → E
  x = R.product

  conjugate-one : R.conjugate R.one ≡ R.one
  conjugate-one =
      sym (laws.product-one _ (laws.conjugate_is R.one))
      ∙ (ap (x (R.conjugate R.one)) (sym (laws.conjugate-conjugate R.one laws.one_is))
      ∙ (sym (laws.conjugate-product R.one (R.conjugate R.one))
      ∙ (ap R.conjugate (laws.product_comm R.one (R.conjugate R.one) ∙ laws.product-one _ (laws.conjugate_is R.one))
      ∙ laws.conjugate-conjugate R.one laws.one_is)))

  -- what is inverse to one takes nothing away
  absorbed : (m w v : E) → IsTrue (R.member m) → w ≡ R.one → x w v ≡ R.one → x m v ≡ m
  absorbed m w v is w_is inverse =
      ap (λ y. x y v) (sym (laws.product-one m is))
      ∙ (laws.product_assoc m R.one v
      ∙ (ap (x m) (ap (λ y. x y v) (sym w_is) ∙ inverse) ∙ laws.product-one m is))

  -- conj(f) w w_0 v_0 v, where f and w_0 are one, v_0 is inverse to one and v to w
  pub product_one : (f w w_0 u v_0 v : E) → f ≡ R.one → w_0 ≡ R.one → u ≡ R.one → x u v_0 ≡ R.one → x w v ≡ R.one
      → x (x (x (x (R.conjugate f) w) w_0) v_0) v ≡ R.one
  product_one f w w_0 u v_0 v f_is w_is u_is before inverse =
      (λ j. x (x (x (x ((ap R.conjugate f_is ∙ conjugate-one) j) w) (w_is j)) v_0) v)
      ∙ (ap (λ y. x (x y v_0) v) (laws.product-one _ (laws.product_is R.one w))
      ∙ (ap (λ y. x y v) (absorbed (x R.one w) u v_0 (laws.product_is R.one w) u_is before)
      ∙ (laws.product_assoc R.one w v
      ∙ (ap (x R.one) inverse ∙ laws.product-one R.one laws.one_is))))

-- A lawful draft.
module _ {D E : Type 0} (ring : Ring E) (held : Held E) (laws : RingLaws ring held) (draft : DraftValue D E) (rules : AreRules draft.rules) (lawful : IsLawful (draft_symbols ring held draft)) where
  abbrev c : Symbols E
  c = draft_symbols ring held draft

  all_three : (a b e : ℕ) → (a < c.count) × (b < c.count) × (e < c.count) → All (λ t. t < c.count) (a ∷ b ∷ e ∷ [])
  all_three a b e low = All-from_recursion (λ t. t < c.count) (a ∷ b ∷ e ∷ []) (low.0, (low.1, (low.2, tt)))

  unit_here : (a : ℕ) → a < c.count → c.fuse 0 a a ≡ true
  unit_here a low = unit_times draft.rules rules a low

  unit_weight : (b e : ℕ) → c.fuse 0 b e ≡ true → c.w 0 b e ≡ ring.one
  unit_weight b e is = obeys c lawful UnitW (0 ∷ b ∷ e ∷ []) refl (all_three 0 b e (fuse_labels draft.rules rules 0 b e is)) (rw is refl)

  inverse_weight : (a b e : ℕ) → c.fuse a b e ≡ true → ring.product (c.w a b e) (c.v a b e) ≡ ring.one
  inverse_weight a b e is = obeys c lawful InverseW (a ∷ b ∷ e ∷ []) refl (all_three a b e (fuse_labels draft.rules rules a b e is)) (rw is refl)

  unit_f : (l r q : ℕ) → c.fuse l r q ≡ true → c.f 0 l r q l q ≡ ring.one
  unit_f l r q is =
      let low = fuse_labels draft.rules rules l r q is in
      obeys c lawful UnitF (0 ∷ l ∷ r ∷ q ∷ l ∷ q ∷ []) refl
      (All-from_recursion (λ t. t < c.count) (0 ∷ l ∷ r ∷ q ∷ l ∷ q ∷ []) (rules.some, (low.0, (low.1, (low.2, (low.0, (low.2, tt)))))))
      (rw (unit_here l low.0, is, unit_here q low.2) refl)

  unit_h_one : (l r q : ℕ) → c.fuse l r q ≡ true → c.h 0 l r q q l ≡ ring.one
  unit_h_one l r q is =
      let low = fuse_labels draft.rules rules l r q is in
      if_yes (f_admissible c.fuse 0 l r q l q) _ _ (rw (unit_here l low.0, is, unit_here q low.2) refl)
      ∙ product_one laws (c.f 0 l r q l q) (c.w l r q) (c.w 0 q q) (c.w 0 l l) (c.v 0 l l) (c.v l r q)
      (unit_f l r q is) (unit_weight q q (unit_here q low.2)) (unit_weight l l (unit_here l low.0)) (inverse_weight 0 l l (unit_here l low.0)) (inverse_weight l r q is)

  unit_h : (l r e q f : ℕ) → c.fuse l r q ≡ true → c.h 0 l r e q f ≡ mark ring (l == f && q == e)
  unit_h l r e q f is =
      let low = fuse_labels draft.rules rules l r q is in
      elim (eqb_tells l f) [
        | inr n ↦
            if_no (f_admissible c.fuse 0 l r e f q) _ _ (and_no (c.fuse 0 l f) _ (unit_left draft.rules rules l f low.0 ∙ n.0))
            ∙ sym (ap (mark ring) (and_no (l == f) (q == e) n.0))
        | inl left ↦ elim (eqb_tells q e) [
          | inr n ↦
              if_no (f_admissible c.fuse 0 l r e f q) _ _
              (and_right (c.fuse 0 l f) _ (and_right (c.fuse f r e) _ (and_right (c.fuse l r q) _ (unit_left draft.rules rules q e low.2 ∙ n.0))))
              ∙ sym (ap (mark ring) (and_right (l == f) (q == e) n.0))
          | inl above ↦
              (λ j. c.h 0 l r (sym above.1 j) q (sym left.1 j))
              ∙ (unit_h_one l r q is ∙ sym (ap (mark ring) (and_yes (l == f) (q == e) left.0 above.0)))
        ]
      ]

  -- the unit of a category
  pub is_unital : IsUnital c
  is_unital = record {
    some = rules.some;
    labels = fuse_labels draft.rules rules;
    unit = unit_left draft.rules rules;
    weight = unit_weight;
    h = unit_h;
  }
