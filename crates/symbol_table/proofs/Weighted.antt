-- The laws of the weights at all labels.
use Rattle.std.proofs.Common.{◌≡◌, ℕ, ◌<◌, true, ◌&&◌, [], ◌∷◌, refl, ap, sym, ◌∙◌, inl, inr}
use Rattle.std.specs.Prelude.{All}
use Rattle.std.proofs.lemmas.List.Elements.{All-from_recursion}
use Rattle.ring_laws.specs.Ring.{Ring, Held, RingLaws}
use Rattle.ring_laws.proofs.SumLemmas.{if_yes, product_left, true_or_false}
use Rattle.symbol_table.specs.Symbols.{Given, Symbols, f_admissible, symbols_of}
use Rattle.symbol_table.specs.Laws.{IsLawful}
use Rattle.symbol_table.specs.AllLabels.{IsProper, IsWeighted}
use Rattle.symbol_table.specs.declared.law.Law.TheVariants.{RealW, InverseW, NormR}
use Rattle.symbol_table.proofs.LawLemmas.{obeys}
use Rattle.symbol_table.proofs.MemberLemmas.{HasZero, has_zero}
use Rattle.symbol_table.proofs.RuleLemmas.{both}

-- The laws of the weights that are equations of a category's laws, or zero on both sides.
module _ {E : Type 0} (ring : Ring E) (held : Held E) (basic : HasZero ring) (g : Given E) (proper : IsProper (symbols_of ring held g)) (lawful : IsLawful (symbols_of ring held g)) where
  abbrev c : Symbols E
  c = symbols_of ring held g

  abbrev x : E → E → E
  x = ring.product

  vertex_labels : (a b e : ℕ) → c.fuse a b e ≡ true → All (λ t. t < c.count) (a ∷ b ∷ e ∷ [])
  vertex_labels a b e on =
      let low = proper.labels a b e on in
      All-from_recursion (λ t. t < c.count) (a ∷ b ∷ e ∷ []) (low.0, (low.1, (low.2, tt)))

  pub inverse_at : (a b e : ℕ) → c.fuse a b e ≡ true → x (c.w a b e) (c.v a b e) ≡ ring.one
  inverse_at a b e on = obeys c lawful InverseW (a ∷ b ∷ e ∷ []) refl (vertex_labels a b e on) (rw on refl)

  real_at : (a b e : ℕ) → ring.conjugate (c.w a b e) ≡ c.w a b e
  real_at a b e =
      elim (true_or_false (c.fuse a b e)) [
        | inl on ↦ obeys c lawful RealW (a ∷ b ∷ e ∷ []) refl (vertex_labels a b e on) (rw on refl)
        | inr off ↦ let none = proper.w_off a b e off in ap ring.conjugate none ∙ basic.conjugate ∙ sym none
      ]

  norm_at : (a b e : ℕ) → x (x (c.r a b e) (ring.conjugate (c.r a b e))) (c.w b a e) ≡ c.w a b e
  norm_at a b e =
      elim (true_or_false (c.fuse a b e)) [
        | inl on ↦ obeys c lawful NormR (a ∷ b ∷ e ∷ []) refl (vertex_labels a b e on) (rw on refl)
        | inr off ↦
            ap (λ y. x (x y (ring.conjugate (c.r a b e))) (c.w b a e)) (proper.r_off a b e off)
            ∙ ap (λ y. x y (c.w b a e)) (basic.left (ring.conjugate (c.r a b e)))
            ∙ basic.left (c.w b a e) ∙ sym (proper.w_off a b e off)
      ]

  -- H and S are adjoint where they are admissible, and zero elsewhere
  pub weighted_by : ((a b m d e f : ℕ) → f_admissible g.fuse a b m d e f ≡ true
      → x (x (c.w a b e) (c.w e m d)) (c.h a b m d f e) ≡ x (x (c.w b m f) (c.w a f d)) (ring.conjugate (c.f a b m d e f)))
      → ((a b e : ℕ) → g.fuse a b e ≡ true → x (c.w b a e) (c.s a b e) ≡ x (c.w a b e) (ring.conjugate (c.r b a e)))
      → IsWeighted c
  weighted_by of_f of_r = record {
    real = real_at;
    inverse = inverse_at;
    norm_r = norm_at;
    adjoint_f = λ a b m d e f.
        let before = x (c.w a b e) (c.w e m d) in
        let after = x (c.w b m f) (c.w a f d) in
        elim (true_or_false (f_admissible g.fuse a b m d e f)) [
          | inl on ↦ of_f a b m d e f on
          | inr off ↦
              ap (x before) (proper.h_off a b m d f e off) ∙ basic.right before
              ∙ sym (ap (λ y. x after (ring.conjugate y)) (proper.f_off a b m d e f off) ∙ ap (x after) basic.conjugate ∙ basic.right after)
        ];
    adjoint_r = λ a b e.
        elim (true_or_false (g.fuse a b e)) [
          | inl on ↦ of_r a b e on
          | inr off ↦
              ap (x (c.w b a e)) (proper.s_off a b e off) ∙ basic.right (c.w b a e)
              ∙ sym (ap (λ y. x y (ring.conjugate (c.r b a e))) (proper.w_off a b e off) ∙ basic.left (ring.conjugate (c.r b a e)))
        ];
  }

module _ {E : Type 0} (ring : Ring E) (held : Held E) (laws : RingLaws ring held) where
  abbrev y : E → E → E
  y = ring.product

  -- a weight takes its inverse away
  unweighed : (w v u t : E) → y w v ≡ ring.one → y w (y (y t u) v) ≡ y u t
  unweighed w v u t one = regroup ∙ (ap (y (y u t)) one ∙ laws.product-one (y u t) (laws.product_is u t))
    where
      regroup : y w (y (y t u) v) ≡ y (y u t) (y w v)
      regroup = simp (laws.product_assoc, laws.product_comm, product_left laws)

  -- two weights take two inverses away
  both_unweighed : (w1 w2 v1 v2 t p q : E) → y w1 v1 ≡ ring.one → y w2 v2 ≡ ring.one → y (y w1 w2) (y (y (y (y t p) q) v1) v2) ≡ y (y p q) t
  both_unweighed w1 w2 v1 v2 t p q one two =
      regroup
      ∙ (ap (λ z. y (y (y (y p q) t) z) (y w2 v2)) one
      ∙ (ap (y (y (y (y p q) t) ring.one)) two
      ∙ (laws.product-one _ (laws.product_is (y (y p q) t) ring.one) ∙ laws.product-one _ (laws.product_is (y p q) t))))
    where
      regroup : y (y w1 w2) (y (y (y (y t p) q) v1) v2) ≡ y (y (y (y p q) t) (y w1 v1)) (y w2 v2)
      regroup = simp (laws.product_assoc, laws.product_comm, product_left laws)

  pub is_weighted : (g : Given E) (proper : IsProper (symbols_of ring held g)) (lawful : IsLawful (symbols_of ring held g)) → IsWeighted (symbols_of ring held g)
  is_weighted g proper lawful =
      weighted_by ring held (has_zero laws) g proper lawful
      (λ a b m d e f on.
      let c = symbols_of ring held g in
      let one = both (c.fuse a b e) (c.fuse e m d && (c.fuse b m f && c.fuse a f d)) on in
      let two = both (c.fuse e m d) (c.fuse b m f && c.fuse a f d) one.1 in
      let turned = ring.conjugate (c.f a b m d e f) in
      ap (y (y (c.w a b e) (c.w e m d))) (if_yes (f_admissible g.fuse a b m d e f) (y (y (y (y turned (c.w b m f)) (c.w a f d)) (c.v a b e)) (c.v e m d)) ring.zero on)
      ∙ both_unweighed (c.w a b e) (c.w e m d) (c.v a b e) (c.v e m d) turned (c.w b m f) (c.w a f d)
      (inverse_at ring held (has_zero laws) g proper lawful a b e one.0) (inverse_at ring held (has_zero laws) g proper lawful e m d two.0))
      (λ a b e on.
      let c = symbols_of ring held g in
      let turned = ring.conjugate (c.r b a e) in
      ap (y (c.w b a e)) (if_yes (g.fuse a b e) (y (y turned (c.w a b e)) (c.v b a e)) ring.zero on)
      ∙ unweighed (c.w b a e) (c.v b a e) (c.w a b e) turned (inverse_at ring held (has_zero laws) g proper lawful b a e (proper.commutes b a e ∙ on)))
