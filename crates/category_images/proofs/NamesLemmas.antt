-- The names of up to twelve labels.
use Rattle.std.proofs.Common.{◌≡◌, ℕ, suc, ◌+◌, ◌<◌, [], ◌∷◌, ◌++◌, Bool, true, false, refl, ap, arith}
use Rattle.std.specs.Prelude.{IsTrue, Option, Some, None}
use Rattle.std.specs.Fmt.{digits}
use Rattle.poly_core.specs.Table.{all_below_at}
use Rattle.fusion_rules.specs.Names.{name_fault}
use Rattle.fusion_rules.specs.declared.names.NameFault.{NameFault}
use Rattle.category_images.specs.Names.{pair_name, pair_names}

abbrev is_free : Option NameFault → Bool
is_free None = true
is_free (Some fault) = false

none_is : (fault : Option NameFault) → IsTrue (is_free fault) → fault ≡ None
none_is None h = refl
none_is (Some fault) h = absurd cc

-- each of twelve names may be added behind those before it
pub name_fresh : (k : ℕ) → k < 12 → name_fault (pair_names k) (pair_name k) ≡ None
unfolding digits
name_fresh k lt = none_is _ (all_below_at 12 (λ i. is_free (name_fault (pair_names i) (pair_name i))) refl k lt)

pub names_end : (k : ℕ) → pair_names (k + 1) ≡ pair_names k ++ pair_name k ∷ []
names_end k = let one : k + 1 ≡ suc k = omega arith in ap pair_names one
