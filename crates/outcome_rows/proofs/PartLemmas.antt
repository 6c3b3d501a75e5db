-- Parts that are made of each label below a count, of which a test keeps some: they come in label order, and they are the
-- projections where none but zero is dropped.
use Rattle.std.proofs.Common.{◌≡◌, ℕ, zero, suc, ◌<◌, Bool, true, false, List, [], ◌∷◌, ◌++◌, map, refl, ap, sym, ◌∙◌, subst, arith}
use Rattle.std.specs.Prelude.{if◌then◌else◌}
use Rattle.std.specs.Cmp.{nat_cmp_is}
use Rattle.std.specs.List.{AllByRecursion, filter}
use Rattle.std.specs.List.Sorted.{IsStrictlySortedBy}
use Rattle.std.specs.Ordering.{nat_cmp}
use Rattle.std.specs.declared.cmp.Ordering.TheVariants.{Less, Equal}
use Rattle.std.proofs.lemmas.List.Kept.{IsStrictlySortedBy-filter}
use Rattle.word_runs.proofs.EachLemmas.{all_append, all_map}
use Rattle.comb_laws.specs.Paths.{labels}
use Rattle.run_laws.specs.Meaning.{AreDistinct, ArePartsOf}
use Rattle.run_laws.proofs.OrderLemmas.{in_filter, in_labels, nat_cmp_same}

-- the labels below n rise
labels_low : (n : ℕ) → AllByRecursion (λ q. q < n) (labels n)
labels_low zero = tt
labels_low (suc n) = all_append (λ q. q < suc n) (labels n) (n ∷ []) (all_map (λ q. q < n) (λ q. q < suc n) (labels n) (λ q low. omega arith) (labels_low n)) (omega arith, tt)

rising_last : (n : ℕ) (xs : List ℕ) → IsStrictlySortedBy nat_cmp xs → AllByRecursion (λ q. q < n) xs → IsStrictlySortedBy nat_cmp (xs ++ n ∷ [])
unfolding IsStrictlySortedBy
rising_last n [] r low = (tt, tt)
rising_last n (x ∷ xs) r low = (all_append (λ y. nat_cmp x y ≡ Less) xs (n ∷ []) r.0 (sym (nat_cmp_is x n Less low.0), tt), rising_last n xs r.1 low.1)

labels_rise : (n : ℕ) → IsStrictlySortedBy nat_cmp (labels n)
unfolding IsStrictlySortedBy
labels_rise zero = tt
labels_rise (suc n) = rising_last n (labels n) (labels_rise n) (labels_low n)

-- what rises is distinct
rising_apart : (xs : List ℕ) → IsStrictlySortedBy nat_cmp xs → AreDistinct xs
unfolding IsStrictlySortedBy
rising_apart [] r = tt
rising_apart (x ∷ xs) r = (all_map (λ y. nat_cmp x y ≡ Less) (λ y. x ≡ y → ⊥) xs (λ y less same. apart y less same) r.0, rising_apart xs r.1)
  where
    apart : (y : ℕ) → nat_cmp x y ≡ Less → x ≡ y → ⊥
    apart y less same = let is : Equal ≡ Less = sym (nat_cmp_same x) ∙ (ap (nat_cmp x) same ∙ less) in absurd (cc)

module _ {M : Type 0} (f : ℕ → M) (test : ℕ × M → Bool) where
  -- the labels of those that are kept
  labels_kept : (qs : List ℕ) → map (λ (p : ℕ × M). p.0) (filter test (map (λ q. (q, f q)) qs)) ≡ filter (λ q. test (q, f q)) qs
  labels_kept [] = refl
  labels_kept (q ∷ qs) = pick (test (q, f q)) (labels_kept qs)
    where
      pick : (b : Bool) → map (λ (p : ℕ × M). p.0) (filter test (map (λ r. (r, f r)) qs)) ≡ filter (λ r. test (r, f r)) qs
          → map (λ (p : ℕ × M). p.0) (if b then (q, f q) ∷ filter test (map (λ r. (r, f r)) qs) else filter test (map (λ r. (r, f r)) qs)) ≡ (if b then q ∷ filter (λ r. test (r, f r)) qs else filter (λ r. test (r, f r)) qs)
      pick true rest = ap (λ l. q ∷ l) rest
      pick false rest = rest

  -- such parts come in label order
  pub parts_rise : (count : ℕ) → IsStrictlySortedBy nat_cmp (map (λ (p : ℕ × M). p.0) (filter test (map (λ q. (q, f q)) (labels count))))
  parts_rise count =
      subst (IsStrictlySortedBy nat_cmp) (sym (labels_kept (labels count))) (IsStrictlySortedBy-filter nat_cmp (λ q. test (q, f q)) (labels count) (labels_rise count))

  all_kept : (P : ℕ × M → Type 0) (n : ℕ) (qs : List ℕ) → ((q : ℕ) → q < n → P (q, f q)) → AllByRecursion (λ q. q < n) qs → AllByRecursion P (filter test (map (λ q. (q, f q)) qs))
  all_kept P n [] each low = tt
  all_kept P n (q ∷ qs) each low = pick (test (q, f q)) (all_kept P n qs each low.1)
    where
      pick : (b : Bool) → AllByRecursion P (filter test (map (λ r. (r, f r)) qs)) → AllByRecursion P (if b then (q, f q) ∷ filter test (map (λ r. (r, f r)) qs) else filter test (map (λ r. (r, f r)) qs))
      pick true rest = (each q low.0, rest)
      pick false rest = rest

  -- and they are the projections
  pub parts_are : {V : Type 0} (count : ℕ) (project : ℕ → V) (nought : V → Bool) (Stands : M → V → Type 0)
      → ((q : ℕ) → q < count → Stands (f q) (project q)) → ((q : ℕ) → q < count → nought (project q) ≡ false → test (q, f q) ≡ true)
      → ArePartsOf count project nought Stands (filter test (map (λ q. (q, f q)) (labels count)))
  parts_are count project nought Stands stands some = record {
    sound = all_kept (λ (p : ℕ × M). (p.0 < count) × Stands p.1 (project p.0)) count (labels count) (λ q low. (low, stands q low)) (labels_low count);
    complete = λ q low is. rw (labels_kept (labels count)) (in_filter (λ r. test (r, f r)) q (labels count) (in_labels count q low) (some q low is));
    distinct = rising_apart (map (λ (p : ℕ × M). p.0) (filter test (map (λ q. (q, f q)) (labels count)))) (parts_rise count);
  }
