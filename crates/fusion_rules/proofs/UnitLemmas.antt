-- The table of the unit triples.
use Rattle.std.proofs.Common.{◌≡◌, ◌≢◌, ℕ, ◌+◌, ◌<◌, ◌≤◌, List, length, Bool, true, false, ◌&&◌, ◌==◌, replicate, set, sym, ◌∙◌, arith, inl, inr}
use Rattle.std.specs.Prelude.{nat_lt, slice_set}
use Rattle.std.proofs.lemmas.Bool.{cases_eq}
use Rattle.std.proofs.lemmas.Bool.Decides.{nat_tests}
use Rattle.std.proofs.lemmas.List.{get_or-replicate, get_or-set_other, length-set}
use Rattle.std.proofs.lemmas.Grind.{get_or-set_at}
use Rattle.fusion_rules.specs.declared.label.TheConstants.{LABEL_LIMIT}
use Rattle.fusion_rules.specs.Fusion.{AreRules, place, stands_at, is_unit_triple, are_labels}

pub no_units : (size x y z : ℕ) → 1728 ≤ size → x < LABEL_LIMIT → y < LABEL_LIMIT → z < LABEL_LIMIT → stands_at (replicate size false) x y z ≡ (nat_lt z 0 && is_unit_triple x y z)
no_units size x y z h hx hy hz = get_or-replicate size (place x y z) false false (omega arith) ∙ none_yet
  where
    none_yet : false ≡ (nat_lt z 0 && is_unit_triple x y z)
    none_yet = grind (arith, nat_tests)

module _ (table : List Bool) (k x y z : ℕ) where
  pub unit_more : length table ≡ 1728 → k < LABEL_LIMIT → x < LABEL_LIMIT → y < LABEL_LIMIT → z < LABEL_LIMIT
      → stands_at table x y z ≡ (nat_lt z k && is_unit_triple x y z)
      → stands_at (slice_set (slice_set table (place 0 k k) true) (place k 0 k) true) x y z ≡ (nat_lt z (k + 1) && is_unit_triple x y z)
  unit_more long hk hx hy hz stood =
      let size : length (set table (place 0 k k) true) ≡ 1728 = length-set table (place 0 k k) true ∙ long in
      elim (cases_eq (place x y z) (place k 0 k)) [
        | inl right ↦ get_or-set_at (set table (place 0 k k) true) (place k 0 k) (place x y z) true false right (omega arith) ∙ sym (right_unit (omega arith) (omega arith) (omega arith))
        | inr not_right ↦ get_or-set_other (set table (place 0 k k) true) (place k 0 k) (place x y z) true false not_right ∙
            (elim (cases_eq (place x y z) (place 0 k k)) [
              | inl left ↦ get_or-set_at table (place 0 k k) (place x y z) true false left (omega arith) ∙ sym (left_unit (omega arith) (omega arith) (omega arith))
              | inr not_left ↦ get_or-set_other table (place 0 k k) (place x y z) true false not_left ∙ (stood ∙ neither_unit not_right not_left)
            ])
      ]
    where
      right_unit : x ≡ k → y ≡ 0 → z ≡ k → (nat_lt z (k + 1) && is_unit_triple x y z) ≡ true
      right_unit e f g = grind (arith, nat_tests)

      left_unit : x ≡ 0 → y ≡ k → z ≡ k → (nat_lt z (k + 1) && is_unit_triple x y z) ≡ true
      left_unit e f g = grind (arith, nat_tests)

      neither_unit : place x y z ≢ place k 0 k → place x y z ≢ place 0 k k → (nat_lt z k && is_unit_triple x y z) ≡ (nat_lt z (k + 1) && is_unit_triple x y z)
      neither_unit not_right not_left = grind (arith, nat_tests)

-- the rules of the unit triples
pub unit_rules : (n : ℕ) (table : List Bool) → 0 < n → n ≤ LABEL_LIMIT → length table ≡ 1728
    → ((a b c : ℕ) → a < LABEL_LIMIT → b < LABEL_LIMIT → c < LABEL_LIMIT → stands_at table a b c ≡ (nat_lt c n && is_unit_triple a b c))
    → AreRules (record { count = n; table = table })
unit_rules n table some few whole stand = record {
  some = some;
  few = few;
  whole = whole;
  left_unit = λ b c hb hc. stand 0 b c (omega arith) (omega arith) (omega arith) ∙ left b c hb hc;
  right_unit = λ a c ha hc. stand a 0 c (omega arith) (omega arith) (omega arith) ∙ right a c ha hc;
  outside = λ a b c ha hb hc not_labels. stand a b c ha hb hc ∙ outside a b c not_labels;
}
  where
    left : (b c : ℕ) → b < n → c < n → (nat_lt c n && is_unit_triple 0 b c) ≡ (b == c)
    left b c hb hc = grind (arith, nat_tests)

    right : (a c : ℕ) → a < n → c < n → (nat_lt c n && is_unit_triple a 0 c) ≡ (a == c)
    right a c ha hc = grind (arith, nat_tests)

    outside : (a b c : ℕ) → are_labels n a b c ≡ false → (nat_lt c n && is_unit_triple a b c) ≡ false
    outside a b c h = grind (arith, nat_tests)
