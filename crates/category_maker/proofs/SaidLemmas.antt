-- The category of a number can be said, and is read.
use Rattle.std.proofs.Common.{◌≡◌, ℕ, ◌*◌, ◌%◌, ◌^◌, ◌-◌, ◌<◌, ◌≤◌, Bool, true, false, refl, ap, sym, subst, ◌∙◌, arith, inl, inr, if◌then◌else◌, Some, None}
use Rattle.std.specs.Prelude.{IsTrue, nat_lt, unsigned_abs, unwrap_or}
use Rattle.std.proofs.lemmas.Bool.{cases_lt}
use Rattle.std.proofs.lemmas.Bool.Decides.{nat_tests}
use Rattle.poly_core.specs.Combination.{pointwise}
use Rattle.poly_core.specs.Roots.{IsGood-root_at}
use Rattle.poly_core.specs.Rho.{is_accepted, rho}
use Rattle.poly_core.specs.Table.{at, past_end}
use Rattle.poly_core.proofs.PowerLemmas.{rho_past}
use Rattle.poly_core.proofs.RhoLemmas.{degree_small}
use Rattle.cyclo_core.specs.CycloLaws.{at-tabulate}
use Rattle.cyclo_core.specs.Ratio.{Ratio, is_held, reduced, ring_at, tabulate}
use Rattle.cyclo_core.specs.RingAt.{member_of_reduced, ring_at_laws}
use Rattle.cyclo_core.proofs.NumberLemmas.{holds, number_over_one, reduced_over_one}
use Rattle.symbol_table.specs.Draft.{DraftValue, IsVersioned}
use Rattle.category_text.specs.Again.{IsNumberOf, IsSaid, ReadAgain}
use Rattle.category_text.specs.Writing.{AllNumbers}
use Rattle.category_text.proofs.DraftLemmas.{draft_said}
use Rattle.category_text.proofs.TextLemmas.{all_read_again}
use Rattle.category_maker.specs.MadeCategory.{group_fuses, label_names, made_category, root_power}
use Rattle.category_maker.specs.Steps.{IsSetUpTo}
use Rattle.category_maker.proofs.GroupLemmas.{all_set}
use Rattle.category_maker.proofs.NamesLemmas.{names_are}
use Rattle.category_maker.proofs.PowerLemmas.{accepted}
use Rattle.category_maker.proofs.RoundLemmas.{length-names}
use Rattle.category_maker.proofs.StepLemmas.{named_is}

tiny : (n k j : ℕ) → unsigned_abs (rho n k j) ≤ 1
unfolding rho
tiny n k j = let g = IsGood-root_at n in g.tiny k j

module _ (n k : ℕ) where
  row_is : at (tabulate 16 (rho n k)) ≡ rho n k
  row_is = pointwise (λ j. elim (cases_lt j 16) [
    | inl lt ↦ at-tabulate 16 (rho n k) j lt
    | inr ge ↦ past_end (tabulate 16 (rho n k)) j (omega arith) ∙ sym (rho_past n k j (let small = degree_small n in omega arith))
  ])

  power_is : ◌≡◌ {A = Ratio} (record { numerators = tabulate 16 (rho n k); denominator = 1 }) (root_power n k)
  unfolding root_power
  power_is = reduced_over_one (tabulate 16 (rho n k)) refl ∙ ap (λ f. reduced f 1) row_is

  small : (j : ℕ) → unsigned_abs (at (tabulate 16 (rho n k)) j) ≤ 2 ^ 127 - 1
  small j = subst (λ f. unsigned_abs (f j) ≤ 2 ^ 127 - 1) (sym row_is) (let t = tiny n k j in omega arith)

  member : IsTrue ((ring_at n).member (root_power n k))
  unfolding root_power
  member = member_of_reduced n (rho n k) 1 (record { past = λ j le. rho_past n k j le }) (omega arith)

  pub power_number : IsNumberOf n (root_power n k)
  power_number = (member, subst (λ x. IsTrue (is_held x)) power_is (holds (tabulate 16 (rho n k)) 1 (number_over_one (tabulate 16 (rho n k)) 1 refl small)))

one_number : (n : ℕ) → IsNumberOf n (ring_at n).one
unfolding is_held
one_number n = ((ring_at_laws n).one_is, refl)

module _ (n : ℕ) (some : 0 < n) (few : n ≤ 12) where
  one_where : (t : Bool) → t ≡ true → IsNumberOf n (if t then unwrap_or None (ring_at n).one else (ring_at n).zero)
  one_where true e = one_number n
  one_where false e = absurd (cc)

  power_where : (t : Bool) (k : ℕ) → t ≡ true → IsNumberOf n (if t then unwrap_or (if t then Some (root_power n k) else None) (ring_at n).one else (ring_at n).zero)
  power_where true k e = power_number n k
  power_where false k e = absurd (cc)

  all_numbers : AllNumbers (made_category n)
  all_numbers = record {
    f = λ a _ b _ c _ d _ e _ i _ allowed. one_where _ allowed;
    vertex = record {
      r = λ a _ b _ c _ allowed. power_where (group_fuses n a b c) ((a * b) % n) allowed;
      w = λ a _ b _ c _ allowed. one_where _ allowed;
      v = λ a _ b _ c _ allowed. one_where _ allowed;
    };
    mark = record { twist = λ a label. one_where _ (is_label a n label); loop_value = λ a label. one_where _ (is_label a n label) };
  }
    where
      is_label : (a m : ℕ) → a < m → nat_lt a m ≡ true
      is_label a m label = grind (arith, nat_tests)

  versioned : (draft : DraftValue ℕ Ratio) → IsSetUpTo n n 0 draft → IsVersioned draft.version draft.set_twist draft.set_loop
  versioned draft set = record { known = inl set.version; first = λ _. (set.twist, set.loop_value) }

  pub made_said : IsSaid (made_category n)
  made_said =
      let begun = all_set n some few in
      let is = named_is n (label_names n) begun.draft refl begun.set in
      subst IsSaid is
      (draft_said (label_names n) begun.draft (names_are n few) (length-names n ∙ sym begun.set.count) (subst (λ m. is_accepted m ≡ true) (sym begun.set.ring) (accepted n some few)) begun.rules (versioned begun.draft begun.set) (subst AllNumbers (sym is) all_numbers))

  pub made_again : ReadAgain (made_category n)
  made_again = all_read_again (made_category n) made_said
