-- A draft that gives the category of a number.
use Rattle.std.proofs.Common.{◌≡◌, ℕ, zero, suc, ◌+◌, ◌*◌, ◌%◌, ◌/◌, ◌<◌, ◌≤◌, List, [], ◌∷◌, Bool, true, false, ◌&&◌, ◌||◌, ◌==◌, map, length, get_or, refl, ap, sym, subst, ◌∙◌, arith, if◌then◌else◌, Some}
use Rattle.std.proofs.lemmas.Bool.Decides.{nat_tests}
use Rattle.std.proofs.lemmas.List.{get_or-map, length-map}
use Rattle.std.specs.Map.{lookup}
use Rattle.std.specs.BTreeMap.{is_at}
use Rattle.cyclo_core.specs.Ratio.{Ratio}
use Rattle.fusion_rules.specs.Fusion.{AreRules, Fusion, are_labels, fuses, place, stands_at, unit_fuses}
use Rattle.symbol_table.specs.Draft.{DraftValue}
use Rattle.symbol_table.specs.Index.{v_cmp, v_index, v_same}
use Rattle.symbol_table.proofs.SameLemmas.{v_is}
use Rattle.category_text.specs.Canonical.{counting}
use Rattle.category_maker.specs.MadeCategory.{group_fuses, root_power}
use Rattle.category_maker.specs.Steps.{IsSetUpTo}
use Rattle.category_maker.proofs.RoundLemmas.{length-counting}
use Rattle.category_maker.proofs.StepLemmas.{none_set, power_set, row_set, unit_sums}

counting_at : (from n k : ℕ) → k < n → get_or (counting from n) k 0 ≡ from + k
counting_at from zero k lt = absurd (omega arith)
counting_at from (suc n) zero lt = omega arith
counting_at from (suc n) (suc k) lt = counting_at (from + 1) n k (omega arith) ∙ omega arith

-- The rules, entry by entry.
abbrev entry : ℕ → ℕ → Bool
entry n i = group_fuses n (i / 144) ((i / 12) % 12) (i % 12)

unfoldable table : ℕ → ℕ → List Bool
table n size = map (entry n) (counting 0 size)

length-table : (n size : ℕ) → length (table n size) ≡ size
unfolding table
length-table n size = length-map (counting 0 size) (entry n) ∙ length-counting 0 size

stands : (n size a b c : ℕ) → 1728 ≤ size → a < 12 → b < 12 → c < 12 → stands_at (table n size) a b c ≡ group_fuses n a b c
unfolding table
stands n size a b c large ha hb hc =
    let inside : place a b c < size = omega arith in
    let count = length-counting 0 size in
    let first : place a b c / 144 ≡ a = omega arith in
    let second : (place a b c / 12) % 12 ≡ b = omega arith in
    let third : place a b c % 12 ≡ c = omega arith in
    get_or-map (entry n) (counting 0 size) (place a b c) 0 false (omega arith)
    ∙ ap (entry n) (counting_at 0 size (place a b c) inside ∙ (let none : 0 + place a b c ≡ place a b c = omega arith in none))
    ∙ ap (λ i. group_fuses n i ((place a b c / 12) % 12) (place a b c % 12)) first
    ∙ ap (λ i. group_fuses n a i (place a b c % 12)) second
    ∙ ap (group_fuses n a b) third

abbrev group_rules : ℕ → Fusion
group_rules n = record { count = n; table = table n 1728 }

module _ (n : ℕ) (some : 0 < n) (few : n ≤ 12) where
  all_below : (a b c : ℕ) → are_labels n a b c ≡ true → (a < n) × (b < n) × (c < n)
  all_below a b c e = (grind (arith, nat_tests), grind (arith, nat_tests), grind (arith, nat_tests))

  group_triples : (a b c : ℕ) → fuses (group_rules n) a b c ≡ group_fuses n a b c
  group_triples a b c = go (are_labels n a b c) refl
    where
      go : (t : Bool) → are_labels n a b c ≡ t → (t && stands_at (table n 1728) a b c) ≡ group_fuses n a b c
      go true e = let (ha, hb, hc) = all_below a b c e in stands n 1728 a b c (omega arith) (omega arith) (omega arith) (omega arith)
      go false e = sym (ap (λ t. t && c == (a + b) % n) e)

  left : (b c : ℕ) → b < n → c < n → unit_fuses n 0 b c ≡ (b == c)
  left b c hb hc = grind (arith, nat_tests)

  right : (a c : ℕ) → a < n → c < n → unit_fuses n a 0 c ≡ (a == c)
  right a c ha hc = grind (arith, nat_tests)

  unit_right : (a : ℕ) → (a == 0 || 0 == 0) ≡ true
  unit_right a = grind (arith, nat_tests)

  group_are_rules : AreRules (group_rules n)
  group_are_rules = record {
    some = some;
    few = few;
    whole = length-table n 1728;
    left_unit = λ b c hb hc. stands n 1728 0 b c (omega arith) (omega arith) (omega arith) (omega arith) ∙ sym (unit_sums n 0 b c refl) ∙ left b c hb hc;
    right_unit = λ a c ha hc. stands n 1728 a 0 c (omega arith) (omega arith) (omega arith) (omega arith) ∙ sym (unit_sums n a 0 c (unit_right a)) ∙ right a c ha hc;
    outside = λ a b c ha hb hc none. stands n 1728 a b c (omega arith) ha hb hc ∙ ap (λ t. t && c == (a + b) % n) none;
  }

  -- a draft over these rules
  pub record Begun (a b : ℕ) : Type 0 where
    pub draft : DraftValue ℕ Ratio
    pub set : IsSetUpTo n a b draft
    pub rules : AreRules draft.rules

  same_both : (x y z a b t : ℕ) → v_same (v_index x y z) (v_index a b t) ≡ v_same (v_index a b t) (v_index x y z)
  same_both x y z a b t = grind (arith, nat_tests)

  one_more : (a b : ℕ) → a < n → b < n → Begun a b → Begun a (b + 1)
  one_more a b ha hb begun =
      let c = (a + b) % n in
      let value = root_power n ((a * b) % n) in
      let entries = (v_index a b c, value) ∷ begun.draft.set_r in record {
        draft = record begun.draft { set_r = entries };
        set =
            power_set n a b begun.draft (record begun.draft { set_r = entries }) value entries ha hb begun.set refl refl
            (λ x y z. ap (λ t. if t then Some value else lookup (is_at (v_cmp (v_index x y z))) begun.draft.set_r) (v_is (v_index x y z) (v_index a b c) ∙ same_both x y z a b c));
        rules = begun.rules;
      }

  some_more : (a b : ℕ) → a < n → b ≤ n → Begun a 0 → Begun a b
  some_more a zero ha hb begun = begun
  some_more a (suc b) ha hb begun = subst (Begun a) (omega arith) (one_more a b ha (omega arith) (some_more a b ha (omega arith) begun))

  rows : (a : ℕ) → a ≤ n → Begun a 0
  rows zero ha = record {
    draft = record { version = 1; ring = n; rules = group_rules n; set_f = []; set_r = []; set_w = []; set_v = []; set_twist = []; set_loop = [] };
    set = none_set n (group_rules n) refl group_triples;
    rules = group_are_rules;
  }
  rows (suc a) ha =
      let whole = some_more a n (omega arith) (let same : n ≤ n = omega arith in same) (rows a (omega arith)) in
      subst (λ k. Begun k 0) (omega arith) (record { draft = whole.draft; set = row_set n a n whole.draft (let same : n ≤ n = omega arith in same) whole.set; rules = whole.rules })

  pub all_set : Begun n 0
  all_set = rows n (let same : n ≤ n = omega arith in same)
