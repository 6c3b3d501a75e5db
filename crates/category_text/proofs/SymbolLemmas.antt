-- Rules without lines.
use Rattle.std.proofs.Common.{◌≡◌, ℕ, None}
use Rattle.fusion_rules.specs.Fusion.{Fusion, fuses, unit_fuses}
use Rattle.category_text.specs.Named.{only_units}
use Rattle.category_text.specs.Answers.{rules_given}

-- rules of the unit triples alone
pub begun_given : (rules : Fusion) (count : ℕ) → rules.count ≡ count → ((a b c : ℕ) → fuses rules a b c ≡ unit_fuses count a b c) → rules_given rules ≡ only_units 1 count
begun_given rules count counted triples = λ t. record {
  version = 1;
  count = counted t;
  fuse = λ a b c. triples a b c t;
  set_f = λ a b c d e f. None;
  set_r = λ a b c. None;
  set_w = λ a b c. None;
  set_v = λ a b c. None;
  set_twist = λ a. None;
  set_loop = λ a. None;
}
