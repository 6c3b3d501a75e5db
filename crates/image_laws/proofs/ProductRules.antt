-- The rules of pairs of labels pass, and the dual of a pair is the pair of duals.
use Rattle.std.proofs.Common.{◌≡◌, ℕ, ◌+◌, ◌*◌, ◌<◌, Bool, ◌&&◌, ap, ap₂, sym, subst, ◌∙◌}
use Rattle.std.specs.Prelude.{◌/◌, ◌%◌}
use Rattle.std.proofs.Math.Nat.{zero-div, zero-mod}
use Rattle.std.proofs.lemmas.Nat.{div-mul-add, mod-mul-add, div-add-mod', mod_below}
use Rattle.ring_laws.proofs.SumLemmas.{and_yes}
use Rattle.fusion_rules.specs.Check.{IsDual, RulesPass, count_below, dual_of, ways_left, ways_right}
use Rattle.symbol_table.proofs.RuleLemmas.{both}
use Rattle.image_laws.proofs.PairLemmas.{first_low, pair_low, and_four, count_same, pair_count, dual_found}

-- rules that pass: the search finds the dual of a label
found_dual : (n : ℕ) (fuse : ℕ → ℕ → ℕ → Bool) (a : ℕ) → RulesPass n fuse → a < n → IsDual n fuse a (dual_of n fuse a)
found_dual n fuse a pass low =
    let dual = pass.single_dual a low in
    subst (IsDual n fuse a) (sym (dual_found n fuse a dual.0 dual.1)) dual.1

module _ (M K : ℕ) (fuse other : ℕ → ℕ → ℕ → Bool) (some : 0 < K) where
  abbrev pairs : ℕ → ℕ → ℕ → Bool
  pairs a b e = fuse (a / K) (b / K) (e / K) && other (a % K) (b % K) (e % K)

  dual_pair : (a i j : ℕ) → IsDual M fuse (a / K) i → IsDual K other (a % K) j → IsDual (M * K) pairs a (i * K + j)
  dual_pair a i j one two = record {
    label = pair_low M K i j one.label two.label;
    fuses = and_yes _ _ (ap₂ (fuse (a / K)) (div-mul-add i K j two.label) (zero-div K) ∙ one.fuses)
        (ap₂ (other (a % K)) (mod-mul-add i K j two.label) (zero-mod K) ∙ two.fuses);
    single = λ y low on.
        let parts = both (fuse (a / K) (y / K) (0 / K)) (other (a % K) (y % K) (0 % K)) on in
        let first = one.single (y / K) (first_low M K y some low) (ap (fuse (a / K) (y / K)) (sym (zero-div K)) ∙ parts.0) in
        let second = two.single (y % K) (mod_below y K some) (ap (other (a % K) (y % K)) (sym (zero-mod K)) ∙ parts.1) in
        sym (div-add-mod' y K) ∙ ap₂ (λ (q r : ℕ). q * K + r) first second;
  }

  module _ (first : RulesPass M fuse) (second : RulesPass K other) where
    -- the ways through a pair are the ways through each label
    ways : (T U : ℕ → ℕ → Bool) (V W : ℕ → ℕ → Bool) (a d : ℕ)
        → count_below (M * K) (λ e. (T a (e / K) && U a (e % K)) && (V d (e / K) && W d (e % K)))
        ≡ count_below M (λ i. T a i && V d i) * count_below K (λ j. U a j && W d j)
    ways T U V W a d =
        count_same (M * K) _ (λ e. (T a (e / K) && V d (e / K)) && (U a (e % K) && W d (e % K))) (λ e _. and_four (T a (e / K)) (U a (e % K)) (V d (e / K)) (W d (e % K)))
        ∙ pair_count M K (λ i. T a i && V d i) (λ j. U a j && W d j)

    pub pairs_pass : RulesPass (M * K) pairs
    pairs_pass = record {
      commutative = λ a b e la lb le.
          ap₂ (λ p q. p && q)
          (first.commutative (a / K) (b / K) (e / K) (first_low M K a some la) (first_low M K b some lb) (first_low M K e some le))
          (second.commutative (a % K) (b % K) (e % K) (mod_below a K some) (mod_below b K some) (mod_below e K some));
      associative = λ a b m d la lb lm ld.
          pair_count' a b m d
          ∙ (ap₂ (λ (k l : ℕ). k * l)
          (first.associative (a / K) (b / K) (m / K) (d / K) (first_low M K a some la) (first_low M K b some lb) (first_low M K m some lm) (first_low M K d some ld))
          (second.associative (a % K) (b % K) (m % K) (d % K) (mod_below a K some) (mod_below b K some) (mod_below m K some) (mod_below d K some))
          ∙ sym (pair_count'' a b m d));
      single_dual = λ a la.
          let one = first.single_dual (a / K) (first_low M K a some la) in
          let two = second.single_dual (a % K) (mod_below a K some) in
          (one.0 * K + two.0, dual_pair a one.0 two.0 one.1 two.1);
    }
      where
        pair_count' : (a b m d : ℕ) → ways_left (M * K) pairs a b m d ≡ ways_left M fuse (a / K) (b / K) (m / K) (d / K) * ways_left K other (a % K) (b % K) (m % K) (d % K)
        pair_count' a b m d =
            ways (λ _ i. fuse (a / K) (b / K) i) (λ _ j. other (a % K) (b % K) j) (λ _ i. fuse i (m / K) (d / K)) (λ _ j. other j (m % K) (d % K)) 0 0

        pair_count'' : (a b m d : ℕ) → ways_right (M * K) pairs a b m d ≡ ways_right M fuse (a / K) (b / K) (m / K) (d / K) * ways_right K other (a % K) (b % K) (m % K) (d % K)
        pair_count'' a b m d =
            ways (λ _ i. fuse (b / K) (m / K) i) (λ _ j. other (b % K) (m % K) j) (λ _ i. fuse (a / K) i (d / K)) (λ _ j. other (a % K) j (d % K)) 0 0

    -- the dual of a pair
    dual_is : (a : ℕ) → a < M * K → dual_of (M * K) pairs a ≡ dual_of M fuse (a / K) * K + dual_of K other (a % K)
    dual_is a low =
        dual_found (M * K) pairs a _
        (dual_pair a _ _ (found_dual M fuse (a / K) first (first_low M K a some low)) (found_dual K other (a % K) second (mod_below a K some)))

    pub first_dual : (a : ℕ) → a < M * K → dual_of (M * K) pairs a / K ≡ dual_of M fuse (a / K)
    first_dual a low =
        ap (λ n. n / K) (dual_is a low) ∙ div-mul-add _ K _ (found_dual K other (a % K) second (mod_below a K some)).label

    pub second_dual : (a : ℕ) → a < M * K → dual_of (M * K) pairs a % K ≡ dual_of K other (a % K)
    second_dual a low =
        ap (λ n. n % K) (dual_is a low) ∙ mod-mul-add _ K _ (found_dual K other (a % K) second (mod_below a K some)).label
