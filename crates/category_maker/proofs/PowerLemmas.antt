-- Numbers of powers, and the roots and names of few labels.
use Rattle.std.proofs.Common.{◌≡◌, ℕ, zero, suc, ◌<◌, ◌≤◌, List, Bool, true, ◌&&◌, refl, ap, ◌∙◌, arith, Ok}
use Rattle.std.specs.Fmt.{digits}
use Rattle.std.specs.Prelude.{ℤ, pos, IsTrue, nat_le, unsigned_abs, Option, Some, None}
use Rattle.poly_core.specs.Table.{all_below_at, at}
use Rattle.poly_core.specs.Rho.{is_accepted, rho}
use Rattle.poly_core.specs.Roots.{is_listed}
use Rattle.poly_core.proofs.RhoLemmas.{accepted_is}
use Rattle.cyclo_core.specs.Given.{are_small, number_of}
use Rattle.cyclo_core.specs.Ratio.{most, reduced}
use Rattle.cyclo_core.proofs.NumberLemmas.{all_fit}
use Rattle.fusion_rules.specs.Names.{name_fault}
use Rattle.fusion_rules.specs.declared.names.NameFault.{NameFault}
use Rattle.category_maker.specs.MadeCategory.{label_name, label_names, root_power}

module _ (xs : List ℤ) (tiny : (j : ℕ) → unsigned_abs (at xs j) ≤ 1) where
  all_small : are_small xs (pos 1) ≡ true
  unfolding are_small
  all_small = ap (λ b. b && nat_le 1 most) ((all_fit 16 (λ j. unsigned_abs (at xs j))).1 (λ j lt. let t = tiny j in omega arith))

  -- small numerators over 1
  tiny_number : number_of xs (pos 1) ≡ Ok (reduced (at xs) 1)
  unfolding number_of
  tiny_number = rw all_small refl

  pub power_number : (n k : ℕ) → at xs ≡ rho n k → number_of xs (pos 1) ≡ Ok (root_power n k)
  unfolding root_power
  power_number n k e = tiny_number ∙ ap (λ f. Ok (reduced f 1)) e

-- each root up to 12 is accepted
listed : (m : ℕ) → m < 12 → IsTrue (is_listed (suc m))
unfolding is_listed
listed m lt = all_below_at 12 (λ k. is_listed (suc k)) refl m lt

pub accepted : (n : ℕ) → 0 < n → n ≤ 12 → IsTrue (is_accepted n)
accepted zero some few = absurd (omega arith)
accepted (suc m) some few = accepted_is (suc m) ∙ listed m (omega arith)

abbrev is_none : Option NameFault → Bool
is_none None = true
is_none (Some fault) = Bool.false

none_is : (fault : Option NameFault) → IsTrue (is_none fault) → fault ≡ None
none_is None h = refl
none_is (Some fault) h = absurd (cc)

-- each of twelve names may be added behind those before it
pub name_fresh : (k : ℕ) → k < 12 → name_fault (label_names k) (label_name k) ≡ None
unfolding digits
name_fresh k lt = none_is _ (all_below_at 12 (λ i. is_none (name_fault (label_names i) (label_name i))) refl k lt)
