-- The names of up to twelve labels.
use Rattle.std.proofs.Common.{◌≡◌, ℕ, ◌<◌, ◌≤◌, Bool, true, false, ◌&&◌, not, refl, arith}
use Rattle.std.specs.Prelude.{IsTrue}
use Rattle.std.specs.Fmt.{digits}
use Rattle.poly_core.specs.Table.{all_below_at, both}
use Rattle.fusion_rules.specs.Names.{AreNames, all_names, has_repeat}
use Rattle.category_maker.specs.MadeCategory.{label_names}
use Rattle.category_maker.proofs.RoundLemmas.{length-names}

tests : (n : ℕ) → n < 13 → IsTrue (all_names (label_names n) && not (has_repeat (label_names n)))
unfolding digits
tests n few = all_below_at 13 (λ k. all_names (label_names k) && not (has_repeat (label_names k))) refl n few

not_true : (b : Bool) → not b ≡ true → b ≡ false
not_true true e = absurd (cc)
not_true false e = refl

pub names_are : (n : ℕ) → n ≤ 12 → AreNames (label_names n)
names_are n few =
    let count = length-names n in
    let two = both (all_names (label_names n)) (not (has_repeat (label_names n))) (tests n (omega arith)) in record {
      few = omega arith;
      spelled = two.0;
      distinct = not_true (has_repeat (label_names n)) two.1;
    }
