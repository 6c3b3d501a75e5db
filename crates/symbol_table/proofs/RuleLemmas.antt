-- What the rules of a draft say at all labels.
use Rattle.std.proofs.Common.{◌≡◌, ℕ, ◌<◌, ◌≤◌, Bool, true, false, ◌&&◌, ◌==◌, refl, sym, ◌∙◌, arith, inl, inr, true≢false}
use Rattle.std.specs.Prelude.{nat_lt}
use Rattle.std.proofs.lemmas.Bool.Decides.{leb_tells, nat_tests}
use Rattle.ring_laws.proofs.SumLemmas.{and_no, and_right, true_or_false}
use Rattle.fusion_rules.specs.Fusion.{Fusion, AreRules, fuses, are_labels}
use Rattle.fusion_rules.specs.Check.{RulesPass}
use Rattle.symbol_table.specs.Index.{AreThreeLabels}

pub both : (a b : Bool) → (a && b) ≡ true → (a ≡ true) × (b ≡ true)
both true b h = (refl, h)
both false b h = absurd (true≢false (sym h))

module _ (g : Fusion) (rules : AreRules g) where
  three : (a b e n : ℕ) → are_labels n a b e ≡ true → AreThreeLabels n a b e
  three a b e n h =
      let first = both (nat_lt a n) (nat_lt b n && nat_lt e n) h in
      let rest = both (nat_lt b n) (nat_lt e n) first.1 in
      (below a first.0, below b rest.0, below e rest.1)
    where
      below : (m : ℕ) → nat_lt m n ≡ true → m < n
      below m h = grind (arith, nat_tests)

  -- only labels fuse
  pub fuse_labels : (a b e : ℕ) → fuses g a b e ≡ true → AreThreeLabels g.count a b e
  fuse_labels a b e h = three a b e g.count (both (are_labels g.count a b e) _ h).0

  is_below : (m n : ℕ) → m < n → nat_lt m n ≡ true
  is_below m n h = grind (arith, nat_tests)

  is_above : (m n : ℕ) → n ≤ m → nat_lt m n ≡ false
  is_above m n h = grind (arith, nat_tests)

  apart : (b e : ℕ) → b < g.count → g.count ≤ e → false ≡ (b == e)
  apart b e low high = grind (arith, nat_tests)

  -- the unit with a label is that label alone, on both sides
  pub unit_left : (b e : ℕ) → b < g.count → fuses g 0 b e ≡ (b == e)
  unit_left b e low =
      elim (leb_tells g.count e) [
        | inl out ↦ and_no (are_labels g.count 0 b e) _ (and_right (nat_lt 0 g.count) _ (and_right (nat_lt b g.count) _ (is_above e g.count out.1))) ∙ apart b e low out.1
        | inr within ↦ rw (is_below 0 g.count rules.some, is_below b g.count low, is_below e g.count within.1) (rules.left_unit b e low within.1)
      ]

  pub unit_right : (b e : ℕ) → b < g.count → fuses g b 0 e ≡ (b == e)
  unit_right b e low =
      elim (leb_tells g.count e) [
        | inl out ↦ and_no (are_labels g.count b 0 e) _ (and_right (nat_lt b g.count) _ (and_right (nat_lt 0 g.count) _ (is_above e g.count out.1))) ∙ apart b e low out.1
        | inr within ↦ rw (is_below 0 g.count rules.some, is_below b g.count low, is_below e g.count within.1) (rules.right_unit b e low within.1)
      ]

-- rules that pass commute at all labels, where only labels fuse
pub always_commute : (n : ℕ) (fuse : ℕ → ℕ → ℕ → Bool) → RulesPass n fuse → ((a b e : ℕ) → fuse a b e ≡ true → AreThreeLabels n a b e)
    → (a b e : ℕ) → fuse a b e ≡ fuse b a e
always_commute n fuse pass labels a b e =
    elim (true_or_false (fuse a b e)) [
      | inl on ↦ let low = labels a b e on in pass.commutative a b e low.0 low.1 low.2
      | inr off ↦ elim (true_or_false (fuse b a e)) [
        | inl on ↦ let low = labels b a e on in sym (pass.commutative b a e low.0 low.1 low.2)
        | inr none ↦ off ∙ sym none
      ]
    ]
