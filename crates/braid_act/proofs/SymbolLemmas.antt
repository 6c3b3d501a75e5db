-- R and S are inverse to one another, so an exchange leaves no amplitude zero.
use Rattle.std.proofs.Common.{◌≡◌, ℕ, Bool, true, false, refl, ap, sym, ◌∙◌}
use Rattle.std.specs.Prelude.{IsTrue, IfOk, Result, Ok, Err}
use Rattle.ring_laws.specs.Ring.{Held, RingLaws}
use Rattle.ring_laws.proofs.SumLemmas as S
use Rattle.symbol_table.specs.AllLabels.{IsProper, IsWeighted}
use Rattle.symbol_table.specs.Symbols.{Symbols}
use Rattle.program_text.specs.declared.plan.Sign.{Sign}
use Rattle.program_text.specs.declared.plan.Sign.TheVariants.{Plus, Minus}
use Rattle.comb_laws.specs.Operators.{exchange_by}
use Rattle.path_laws.specs.Moves.{opposite}
use Rattle.path_laws.proofs.OneLabel.{r_undoes_s, s_undoes_r}

module _ {E : Type 0} (c : Symbols E) (laws : RingLaws c.ring c.held) (proper : IsProper c) (weighted : IsWeighted c) where
  abbrev o : E → E → E
  o = c.ring.product

  -- an exchange of either sign and then the other
  pub undone : (sign : Sign) (a b e : ℕ) → c.fuse a b e ≡ true → o (exchange_by c (opposite sign) b a e) (exchange_by c sign a b e) ≡ c.ring.one
  undone Plus a b e is = r_undoes_s c laws proper weighted a b e is
  undone Minus a b e is = s_undoes_r c laws proper weighted a b e is

  -- what isn't zero isn't zero after an exchange
  pub kept : (sign : Sign) (a b e : ℕ) (v : E) → c.fuse a b e ≡ true → IsTrue (c.ring.member v) → c.held.is_zero v ≡ false → c.held.is_zero (o (exchange_by c sign a b e) v) ≡ false
  kept sign a b e v is member some = by (c.held.is_zero (o (exchange_by c sign a b e) v)) refl
    where
      by : (z : Bool) → c.held.is_zero (o (exchange_by c sign a b e) v) ≡ z → c.held.is_zero (o (exchange_by c sign a b e) v) ≡ false
      by false h = h
      by true h =
          let gone : o (exchange_by c sign a b e) v ≡ c.ring.zero = (laws.is_zero_is _ (laws.product_is _ _)).0 h in
          let zero : v ≡ c.ring.zero =
          sym (laws.product-one v member)
          ∙ (ap (o v) (sym (undone sign a b e is))
          ∙ (turn v (exchange_by c (opposite sign) b a e) (exchange_by c sign a b e) ∙ (ap (o (exchange_by c (opposite sign) b a e)) gone ∙ laws.product-zero _))) in
          let clash : true ≡ false = sym ((laws.is_zero_is v member).1 zero) ∙ some in
          absurd (cc)
        where
          turn : (v s r : E) → o v (o s r) ≡ o s (o r v)
          turn v s r = simp (laws.product_assoc, laws.product_comm, S.product_left laws)

-- so a product that isn't zero is found not to be zero
pub kept_result : {E F : Type 0} {x : E} (H : Held E) (result : Result E F) → IfOk result (λ z. z ≡ x) → H.is_zero x ≡ false → IfOk result (λ z. H.is_zero z ≡ false)
kept_result H (Ok z) is some = ap H.is_zero is ∙ some
kept_result H (Err e) is some = tt
