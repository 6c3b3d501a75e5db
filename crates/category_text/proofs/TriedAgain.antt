-- What can be said, tried: the unit alone, and the Fibonacci category of version 2.
use Rattle.std.proofs.Common.{◌≡◌, ℕ, zero, suc, ◌≤◌, List, [], ◌∷◌, ◌||◌, ◌==◌, false, None, refl, sym, ap, ◌∙◌, codes, arith, inl, inr}
use Rattle.std.specs.Prelude.{ℤ, pos, negsuc, IsTrue}
use Rattle.std.proofs.lemmas.Bool.Decides.{nat_tests}
use Rattle.poly_core.specs.Combination.{nought}
use Rattle.poly_core.specs.Gcd.{totient, gcd}
use Rattle.poly_core.specs.Rho.{is_accepted, degree}
use Rattle.poly_core.specs.Table.{at}
use Rattle.poly_core.proofs.RhoLemmas.{totient_is}
use Rattle.cyclo_core.specs.CycloLaws.{same_ratio_is, tabulate-nought}
use Rattle.cyclo_core.proofs.NumberLemmas.{reduced_over_one, filled_is, coefficient_is, coefficient_past}
use Rattle.cyclo_core.specs.Ratio.{Ratio, ring_at, tabulate, reduced, coefficient, under, is_held}
use Rattle.fusion_rules.specs.Fusion.{unit_fuses}
use Rattle.symbol_table.specs.Index.{AreThreeLabels, f_index, v_index}
use Rattle.category_text.specs.declared.kind.Symbol.{Symbol}
use Rattle.category_text.specs.declared.kind.Symbol.TheVariants.{OfF, OfR, OfW, OfV, OfTwist, OfLoop}
use Rattle.category_text.specs.Named.{NamedSymbols, has_symbol}
use Rattle.category_text.specs.Spelled.{fused_all, set_with, set_all, head_alone}
use Rattle.category_text.specs.Again.{IsNumberOf, IsSaid}
use Rattle.category_text.proofs.FreshLemmas.{Each, set_of_head}
use Rattle.category_text.proofs.IndexLemmas.{set_of}
use Rattle.category_text.proofs.KeepLemmas.{AreSetNumbers, numbers_with, numbers_alone, grown_said}

numbers_all : (said : NamedSymbols) (ss : List (Symbol × Ratio)) → AreSetNumbers said.root said.given → Each (λ (s : Symbol × Ratio). IsNumberOf said.root s.1) ss → AreSetNumbers said.root (set_all said ss).given
numbers_all said [] all each = all
numbers_all said (s ∷ ss) all each = numbers_all (set_with said s.0 s.1) ss (numbers_with said.root said.given s.0 s.1 all each.0) each.1

-- the unit alone
unit_alone : IsSaid (head_alone 1 1 (codes "1" ∷ []))
unfolding is_accepted totient gcd
unit_alone =
    grown_said (head_alone 1 1 (codes "1" ∷ [])) (record {
      names = record { few = omega arith; spelled = refl; distinct = refl };
      some = omega arith;
      counted = refl;
      accepted = refl;
      units = λ a b c unit. refl;
      labels = λ a b c e. labels a b c e;
      numbers = numbers_alone 1 1 1;
      version = inl refl;
      unmarked = none;
    })
  where
    labels : (a b c : ℕ) → IsTrue (unit_fuses 1 a b c) → AreThreeLabels 1 a b c
    labels a b c e = (grind (arith, nat_tests), grind (arith, nat_tests), grind (arith, nat_tests))

    none : (s : Symbol) → has_symbol 1 s ≡ false → set_of (head_alone 1 1 (codes "1" ∷ [])).given s ≡ None
    none s e = set_of_head 1 1 (codes "1" ∷ []) s

-- sums of powers of a fifth root of unity
fifth : ℤ → ℤ → ℤ → ℤ → Ratio
fifth a b c d = record { numerators = a ∷ b ∷ c ∷ d ∷ tabulate 12 nought; denominator = 1 }

four : degree 5 ≡ 4
unfolding is_accepted totient gcd
four = sym (totient_is 5 refl)

fifth_past : (a b c d : ℤ) (j : ℕ) → 4 ≤ j → at (fifth a b c d).numerators j ≡ pos 0
unfolding fifth
fifth_past a b c d zero le = absurd (omega arith)
fifth_past a b c d (suc zero) le = absurd (omega arith)
fifth_past a b c d (suc (suc zero)) le = absurd (omega arith)
fifth_past a b c d (suc (suc (suc zero))) le = absurd (omega arith)
fifth_past a b c d (suc (suc (suc (suc j)))) le = tabulate-nought 12 j

fifth_member : (a b c d : ℤ) → IsTrue ((ring_at 5).member (fifth a b c d))
unfolding fifth
fifth_member a b c d =
    let x = fifth a b c d in
    let top : at x.numerators ≡ coefficient 5 x = filled_is 5 x.numerators (coefficient 5 x) (λ j lt. sym (coefficient_is 5 x j lt)) (λ j le. fifth_past a b c d j (omega (arith, four))) (coefficient_past 5 x) in
    (same_ratio_is x (reduced (coefficient 5 x) (under x))).1 (reduced_over_one x.numerators refl ∙ ap (λ f. reduced f 1) top)

-- its triples, and the values that aren't 1
fibonacci_rules : NamedSymbols
fibonacci_rules = fused_all (head_alone 2 5 (codes "1" ∷ codes "t" ∷ [])) (v_index 1 1 0 ∷ v_index 1 1 1 ∷ [])

fibonacci_values : List (Symbol × Ratio)
fibonacci_values =
    (OfF (f_index 1 1 1 1 0 0), fifth (negsuc 0) (pos 0) (negsuc 0) (negsuc 0)) ∷ (OfF (f_index 1 1 1 1 0 1), fifth (negsuc 0) (pos 0) (negsuc 0) (negsuc 0)) ∷ (OfF (f_index 1 1 1 1 1 1), fifth (pos 1) (pos 0) (pos 1) (pos 1))
    ∷ (OfR (v_index 1 1 0), fifth (pos 0) (pos 0) (pos 0) (pos 1)) ∷ (OfR (v_index 1 1 1), fifth (pos 1) (pos 1) (pos 1) (pos 1))
    ∷ (OfW (v_index 1 1 0), fifth (negsuc 0) (pos 0) (negsuc 0) (negsuc 0)) ∷ (OfV (v_index 1 1 0), fifth (pos 0) (pos 0) (negsuc 0) (negsuc 0))
    ∷ (OfTwist 1, fifth (pos 0) (pos 0) (pos 1) (pos 0)) ∷ (OfLoop 1, fifth (pos 0) (pos 0) (negsuc 0) (negsuc 0)) ∷ []

each_number : Each (λ (s : Symbol × Ratio). IsNumberOf 5 s.1) fibonacci_values
unfolding fibonacci_values fifth is_held
each_number = (
  (fifth_member (negsuc 0) (pos 0) (negsuc 0) (negsuc 0), refl),
  (
    (fifth_member (negsuc 0) (pos 0) (negsuc 0) (negsuc 0), refl),
    (
      (fifth_member (pos 1) (pos 0) (pos 1) (pos 1), refl),
      (
        (fifth_member (pos 0) (pos 0) (pos 0) (pos 1), refl),
        (
          (fifth_member (pos 1) (pos 1) (pos 1) (pos 1), refl),
          ((fifth_member (negsuc 0) (pos 0) (negsuc 0) (negsuc 0), refl), ((fifth_member (pos 0) (pos 0) (negsuc 0) (negsuc 0), refl), ((fifth_member (pos 0) (pos 0) (pos 1) (pos 0), refl), ((fifth_member (pos 0) (pos 0) (negsuc 0) (negsuc 0), refl), tt)))),
        ),
      ),
    ),
  ),
)

numbers_none : AreSetNumbers 5 fibonacci_rules.given
unfolding fibonacci_rules
numbers_none (OfF at) = tt
numbers_none (OfR at) = tt
numbers_none (OfW at) = tt
numbers_none (OfV at) = tt
numbers_none (OfTwist a) = tt
numbers_none (OfLoop a) = tt

fibonacci : IsSaid (set_all fibonacci_rules fibonacci_values)
unfolding fibonacci_rules fibonacci_values is_accepted totient gcd
fibonacci =
    grown_said (set_all fibonacci_rules fibonacci_values) (record {
      names = record { few = omega arith; spelled = refl; distinct = refl };
      some = omega arith;
      counted = refl;
      accepted = refl;
      units = units;
      labels = labels;
      numbers = numbers_all fibonacci_rules fibonacci_values numbers_none each_number;
      version = inr refl;
      unmarked = unmarked;
    })
  where
    unmarked : (s : Symbol) → has_symbol 2 s ≡ false → set_of (set_all fibonacci_rules fibonacci_values).given s ≡ None
    unmarked (OfF at) e = absurd (cc)
    unmarked (OfR at) e = absurd (cc)
    unmarked (OfW at) e = absurd (cc)
    unmarked (OfV at) e = absurd (cc)
    unmarked (OfTwist at) e = absurd (cc)
    unmarked (OfLoop at) e = absurd (cc)

    units : (a b c : ℕ) → IsTrue (a == 0 || b == 0) → fibonacci_rules.given.fuse a b c ≡ unit_fuses 2 a b c
    units a b c unit = grind (arith, nat_tests)

    labels : (a b c : ℕ) → IsTrue (fibonacci_rules.given.fuse a b c) → AreThreeLabels 2 a b c
    labels a b c e = (grind (arith, nat_tests), grind (arith, nat_tests), grind (arith, nat_tests))
