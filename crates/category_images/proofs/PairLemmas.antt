-- What is known of a product from its two categories.
use Rattle.std.proofs.Common.{◌≡◌, ℕ, ◌*◌, ◌<◌, ◌≤◌, Bool, true, false, ◌&&◌, List, [], ◌∷◌, map, length, refl, sym, ap, ap₂, subst, ◌∙◌, arith, true≢false, Some, None, Result, Ok, Err}
use Rattle.std.specs.Prelude.{◌/◌, ◌%◌, ◌↔◌, All, IfOk, IsOk, IsTrue, slice_index, if◌then◌else◌}
use Rattle.std.proofs.lemmas.Bool.{and_parts}
use Rattle.std.proofs.lemmas.List.{get_or-map}
use Rattle.std.proofs.Math.Nat.{zero-div, zero-mod}
use Rattle.std.proofs.lemmas.Nat.{div-add-mod'}
use Rattle.std.proofs.lemmas.Bool.Decides.{nat_tests}
use Rattle.std.proofs.lemmas.List.Elements.{All-map, All-weaker}
use Rattle.ring_laws.specs.Ring.{Ring}
use Rattle.ring_laws.specs.Stated.{Gives, product_at}
use Rattle.cyclo_core.specs.Fraction.{product_pos}
use Rattle.fusion_rules.specs.declared.label.TheConstants.{LABEL_LIMIT}
use Rattle.symbol_table.specs.Symbols.{Symbols}
use Rattle.symbol_table.specs.AllLabels.{HasUnit, IsProper}
use Rattle.symbol_table.specs.Laws.{at1, at3, at6, fuse_all, fuses_at}
use Rattle.symbol_table.specs.declared.law.Triple.{Triple}
use Rattle.law_events.specs.First.{all_within, within}
use Rattle.image_laws.specs.Products.{first_of, product_of, second_of}
use Rattle.image_laws.proofs.PairLemmas.{first_low, pair_low, pair_test}
use Rattle.category_images.specs.Patterns.{HasRules}
use Rattle.category_images.specs.Places.{places, triples, value_at}
use Rattle.category_images.specs.declared.place.Symbol.{Symbol}
use Rattle.category_images.specs.declared.place.Symbol.TheVariants.{F, R, W, V, H, S, Twist, Loop}
use Rattle.category_images.proofs.RuleLemmas.{both_true}
use Rattle.category_images.proofs.WalkLemmas.{all_known}

module _ {E : Type 0} (c d : Symbols E) where
  a_pair : (a : ℕ) → first_of c d a < c.count → second_of c d a < d.count → a < c.count * d.count
  a_pair a one two = subst (λ n. n < c.count * d.count) (div-add-mod' a d.count) (pair_low c.count d.count (a / d.count) (a % d.count) one two)

  pub product_rules : IsProper c → HasUnit c → IsProper d → HasUnit d → c.count * d.count ≤ LABEL_LIMIT → HasRules (product_of c d)
  product_rules proper_c unit_c proper_d unit_d few = record {
    some = product_pos c.count d.count unit_c.some unit_d.some;
    few = few;
    labels = λ a b e is.
        let both = and_parts (c.fuse (first_of c d a) (first_of c d b) (first_of c d e)) _ is in
        let one = proper_c.labels (first_of c d a) (first_of c d b) (first_of c d e) both.0 in
        let two = proper_d.labels (second_of c d a) (second_of c d b) (second_of c d e) both.1 in
        (a_pair a one.0 two.0, a_pair b one.1 two.1, a_pair e one.2 two.2);
    left = λ b e low.
        rw (zero-div d.count, zero-mod d.count)
        (ap₂ ◌&&◌ (unit_c.left (first_of c d b) (first_of c d e) (first_low c.count d.count b unit_d.some low)) (unit_d.left (second_of c d b) (second_of c d e) (second_low b))
        ∙ sym (pair_test d.count b e));
    right = λ a e low.
        rw (zero-div d.count, zero-mod d.count)
        (ap₂ ◌&&◌ (unit_c.right (first_of c d a) (first_of c d e) (first_low c.count d.count a unit_d.some low)) (unit_d.right (second_of c d a) (second_of c d e) (second_low a))
        ∙ sym (pair_test d.count a e));
  }
    where
      second_low : (a : ℕ) → a % d.count < d.count
      second_low a = let some = unit_d.some in omega arith

-- symbols at the labels that a function makes of an index
at_six : {E : Type 0} (g : ℕ → ℕ → ℕ → ℕ → ℕ → ℕ → E) (f : ℕ → ℕ) (i : List ℕ) → length i ≡ 6
    → at6 g (map f i) ≡ g (f (slice_index i 0)) (f (slice_index i 1)) (f (slice_index i 2)) (f (slice_index i 3)) (f (slice_index i 4)) (f (slice_index i 5))
at_six g f i long =
    rw (get_or-map f i 0 0 0 (omega arith), get_or-map f i 1 0 0 (omega arith), get_or-map f i 2 0 0 (omega arith), get_or-map f i 3 0 0 (omega arith), get_or-map f i 4 0 0 (omega arith), get_or-map f i 5 0 0 (omega arith)) refl

at_three : {E : Type 0} (g : ℕ → ℕ → ℕ → E) (f : ℕ → ℕ) (i : List ℕ) → length i ≡ 3 → at3 g (map f i) ≡ g (f (slice_index i 0)) (f (slice_index i 1)) (f (slice_index i 2))
at_three g f i long = rw (get_or-map f i 0 0 0 (omega arith), get_or-map f i 1 0 0 (omega arith), get_or-map f i 2 0 0 (omega arith)) refl

at_one : {E : Type 0} (g : ℕ → E) (f : ℕ → ℕ) (i : List ℕ) → length i ≡ 1 → at1 g (map f i) ≡ g (f (slice_index i 0))
at_one g f i long = rw (get_or-map f i 0 0 0 (omega arith)) refl

module _ {E : Type 0} (c d : Symbols E) where
  abbrev both_at : Symbol → List ℕ → E
  both_at symbol i = c.ring.product (value_at c symbol (map (first_of c d) i)) (value_at d symbol (map (second_of c d) i))

  -- the values of a product are products
  pub product_value : (symbol : Symbol) (i : List ℕ) → length i ≡ places symbol → both_at symbol i ≡ value_at (product_of c d) symbol i
  product_value F i long = ap₂ c.ring.product (at_six c.f (first_of c d) i long) (at_six d.f (second_of c d) i long)
  product_value R i long = ap₂ c.ring.product (at_three c.r (first_of c d) i long) (at_three d.r (second_of c d) i long)
  product_value W i long = ap₂ c.ring.product (at_three c.w (first_of c d) i long) (at_three d.w (second_of c d) i long)
  product_value V i long = ap₂ c.ring.product (at_three c.v (first_of c d) i long) (at_three d.v (second_of c d) i long)
  product_value H i long = ap₂ c.ring.product (at_six c.h (first_of c d) i long) (at_six d.h (second_of c d) i long)
  product_value S i long = ap₂ c.ring.product (at_three c.s (first_of c d) i long) (at_three d.s (second_of c d) i long)
  product_value Twist i long = ap₂ c.ring.product (at_one c.twist (first_of c d) i long) (at_one d.twist (second_of c d) i long)
  product_value Loop i long = ap₂ c.ring.product (at_one c.loop_value (first_of c d) i long) (at_one d.loop_value (second_of c d) i long)

triple_within : (n : ℕ) (t : Triple) → within n t ≡ true → (t.a < n) × (t.b < n) × (t.c < n)
triple_within n t h = grind (arith, nat_tests)

-- what fuses in all is what fuses in parts of it
pub part_fuses : (all part : ℕ → ℕ → ℕ → Bool) (f : ℕ → ℕ) → ((a b e : ℕ) → all a b e ≡ true → part (f a) (f b) (f e) ≡ true) → (i : List ℕ) (ts : List Triple) → all_within (length i) ts ≡ true
    → fuse_all all i ts ≡ true → fuse_all part (map f i) ts ≡ true
part_fuses all part f parts i [] known is = refl
part_fuses all part f parts i (t ∷ ts) known is =
    let inside = and_parts (within (length i) t) (all_within (length i) ts) known in
    let here = and_parts (fuses_at all i t) (fuse_all all i ts) is in
    let low = triple_within (length i) t inside.0 in
    both_true (fuses_at part (map f i) t) (fuse_all part (map f i) ts)
    (rw (get_or-map f i t.a 0 0 low.0, get_or-map f i t.b 0 0 low.1, get_or-map f i t.c 0 0 low.2) (parts (slice_index i t.a) (slice_index i t.b) (slice_index i t.c) here.0))
    (part_fuses all part f parts i ts inside.1 here.1)

module _ {E : Type 0} (c d : Symbols E) (symbol : Symbol) (i : List ℕ) (long : length i ≡ places symbol) (is : fuse_all (product_of c d).fuse i (triples symbol) ≡ true) where
  known : all_within (length i) (triples symbol) ≡ true
  known = subst (λ n. all_within n (triples symbol) ≡ true) (sym long) (all_known symbol)

  pub first_fuses : fuse_all c.fuse (map (first_of c d) i) (triples symbol) ≡ true
  first_fuses =
      part_fuses (product_of c d).fuse c.fuse (first_of c d)
      (λ a b e both. (and_parts (c.fuse (first_of c d a) (first_of c d b) (first_of c d e)) _ both).0) i (triples symbol) known is

  pub second_fuses : fuse_all d.fuse (map (second_of c d) i) (triples symbol) ≡ true
  second_fuses =
      part_fuses (product_of c d).fuse d.fuse (second_of c d)
      (λ a b e both. (and_parts (c.fuse (first_of c d a) (first_of c d b) (first_of c d e)) _ both).1) i (triples symbol) known is

module _ (M K : ℕ) (some : 0 < K) where
  pub firsts_low : (i : List ℕ) → All (λ a. a < M * K) i → All (λ a. a < M) (map (λ a. a / K) i)
  firsts_low i low = All-map (λ a. a < M) (λ a. a / K) i (All-weaker (λ a. a < M * K) (λ a. a / K < M) (λ a less. first_low M K a some less) i low)

  pub seconds_low : (i : List ℕ) → All (λ a. a < M * K) i → All (λ a. a < K) (map (λ a. a % K) i)
  seconds_low i low = All-map (λ a. a < K) (λ a. a % K) i (All-weaker (λ a. a < M * K) (λ a. a % K < K) (λ a less. omega arith) i low)

-- what a product of two values answers
pub product_gives : {E A : Type 0} (ring : Ring E) (r : Result E A) (x y : E) → IsTrue (ring.product_fits x y) ↔ IsOk r → IfOk r (λ z. z ≡ ring.product x y) → Gives r (product_at ring x y)
product_gives ring (Ok z) x y fits value = rw (fits.1 refl) (ap Some (sym value))
product_gives ring (Err e) x y fits value = if_not (ring.product_fits x y) (λ h. true≢false (sym (fits.0 h)))
  where
    if_not : (b : Bool) → (IsTrue b → ⊥) → (if b then Some (ring.product x y) else None) ≡ None
    if_not true not = absurd (not refl)
    if_not false not = refl

pub value_along : {E A : Type 0} (r : Result E A) (x y : E) → x ≡ y → IfOk r (λ z. z ≡ x) → IfOk r (λ z. z ≡ y)
value_along (Ok z) x y same is = is ∙ same
value_along (Err e) x y same is = tt
