-- From the unit, a left-combed tree is one at the path of its own labels, and zero elsewhere.
use mathlib.Core.Path.{fun_ext}
use Rattle.std.proofs.Common.{◌≡◌, ℕ, zero, suc, ◌+◌, ◌-◌, ◌<◌, Bool, true, false, List, [], ◌∷◌, length, get_or, refl, ap, ap₂, sym, ◌∙◌, arith, inl, inr, true≢false}
use Rattle.std.specs.Prelude.{if◌then◌else◌, ◌&&◌, ◌==◌, nat_lt, slice_index}
use Rattle.std.specs.Str.{bytes_eq}
use Rattle.std.proofs.Math.ListN.{get_or-append}
use Rattle.std.proofs.lemmas.List.{get_or-append_right}
use Rattle.std.proofs.lemmas.Bool.Decides.{leb_tells, nat_tests}
use Rattle.std.proofs.lemmas.Slice.Eq.{bytes_eq-Decides}
use Rattle.ring_laws.specs.Ring.{RingLaws}
use Rattle.ring_laws.proofs.SumLemmas.{zero-product, test_true, true_or_false}
use Rattle.symbol_table.specs.Symbols.{Symbols}
use Rattle.tree_shapes.specs.Labelled.{Labelled, Strand, Joined, label, leaves, size, is_left_comb, is_admissible}
use Rattle.program_text.specs.Form.{labels_below}
use Rattle.comb_laws.specs.Paths.{Path, goes_on, is_path}
use Rattle.comb_laws.specs.Amplitudes.{path_amplitude, own_path, own_vector}
use Rattle.comb_laws.specs.Laws.{StartsAtOwnPath}
use Rattle.comb_laws.proofs.PathFacts.{and_true, same_path, path_along}
use Rattle.comb_laws.proofs.StartLemmas.{length-leaves, length-own, own_is_path, LeftStart, left_start}
use Rattle.comb_laws.proofs.UnitLemmas.{IsUnital, mark}

tells : (a b : ℕ) → (a == b) ≡ true → a ≡ b
tells a b h = grind (arith, nat_tests)

-- whether labels by place are a left-combed tree's own
own_here : Labelled → (ℕ → ℕ) → Bool
own_here (Strand a) x = a == x 1
own_here (Joined l r q) x = own_here l x && q == x ((0 + size l) + size r)

own_top : (t : Labelled) → is_left_comb t ≡ true → (x : ℕ → ℕ) → own_here t x ≡ true → x (0 + size t) ≡ label t
unfolding own_here
own_top (Strand a) comb x own = sym (tells a (x 1) own)
own_top (Joined l r q) comb x own =
    let there : x ((0 + size l) + size r) ≡ q = sym (tells q (x ((0 + size l) + size r)) (and_true (own_here l x) (q == x ((0 + size l) + size r)) own).1) in
    ap x (omega arith) ∙ there

-- labels that are a tree's own are those of its path
own_agrees : (t : Labelled) → is_left_comb t ≡ true → (x : ℕ → ℕ) → x 0 ≡ 0 → own_here t x ≡ true → (g : ℕ) → g < size t + 1 → get_or (own_path t) g 0 ≡ x g
unfolding own_here
own_agrees (Strand a) comb x start own zero low = sym start
own_agrees (Strand a) comb x start own (suc zero) low = tells a (x 1) own
own_agrees (Strand a) comb x start own (suc (suc g)) low = absurd (omega arith)
own_agrees (Joined l (Joined u v w) q) comb x start own g low = absurd (cc)
own_agrees (Joined l (Strand a) q) comb x start own g low =
    let both = and_true (own_here l x) (q == x ((0 + size l) + 1)) own in
    let long : length (own_path l) ≡ size l + 1 = length-own l comb in
    elim (leb_tells (size l + 1) g) [
      | inl last ↦
          let here : g ≡ (0 + size l) + 1 = omega arith in
          let none : g - (size l + 1) ≡ 0 = omega arith in
          get_or-append_right (own_path l) (q ∷ []) (size l + 1) g 0 long last.1
          ∙ (ap (λ i. get_or (q ∷ []) i 0) none ∙ (tells q (x ((0 + size l) + 1)) both.1 ∙ ap x (sym here)))
      | inr less ↦ get_or-append (own_path l) (q ∷ []) 0 g (omega arith) ∙ own_agrees l comb x start both.0 g less.1
    ]

-- labels that are those of a tree's path are its own
own_from : (t : Labelled) → is_left_comb t ≡ true → (x : ℕ → ℕ) → ((g : ℕ) → g < size t + 1 → get_or (own_path t) g 0 ≡ x g) → own_here t x ≡ true
unfolding own_here
own_from (Strand a) comb x h = test_true a (x 1) (h 1 (omega arith))
own_from (Joined l (Joined u v w) q) comb x h = absurd (cc)
own_from (Joined l (Strand a) q) comb x h =
    let long : length (own_path l) ≡ size l + 1 = length-own l comb in
    let place : size l + 1 ≡ (0 + size l) + 1 = omega arith in
    let none : (size l + 1) - (size l + 1) ≡ 0 = omega arith in
    let last : q ≡ x (size l + 1) =
    sym (get_or-append_right (own_path l) (q ∷ []) (size l + 1) (size l + 1) 0 long (omega arith) ∙ ap (λ i. get_or (q ∷ []) i 0) none) ∙ h (size l + 1) (omega arith) in
    let before = own_from l comb x (λ g low. sym (get_or-append (own_path l) (q ∷ []) 0 g (omega arith)) ∙ h g (omega arith)) in
    rw before (test_true q (x ((0 + size l) + 1)) (last ∙ ap x place))

same_list : (xs ys : List ℕ) → length xs ≡ length ys → ((g : ℕ) → g < length xs → get_or xs g 0 ≡ get_or ys g 0) → xs ≡ ys
same_list [] [] long h = refl
same_list [] (y ∷ ys) long h = absurd (omega arith)
same_list (x ∷ xs) [] long h = absurd (omega arith)
same_list (x ∷ xs) (y ∷ ys) long h = λ j. h 0 (omega arith) j ∷ same_list xs ys (omega arith) (λ g low. h (suc g) (omega arith)) j

same_test : (a b : Bool) → (a ≡ true → b ≡ true) → (b ≡ true → a ≡ true) → a ≡ b
same_test true b there back = sym (there refl)
same_test false true there back = back refl
same_test false false there back = refl

-- the labels of a list are a tree's own where it is the tree's path
own_is_here : (t : Labelled) → is_left_comb t ≡ true → (xs : Path) → slice_index xs 0 ≡ 0 → length xs ≡ size t + 1 → own_here t (slice_index xs) ≡ bytes_eq (own_path t) xs
own_is_here t comb xs start long =
    let own_long : length (own_path t) ≡ size t + 1 = length-own t comb in
    same_test (own_here t (slice_index xs)) (bytes_eq (own_path t) xs)
    (λ own. (bytes_eq-Decides (own_path t) xs).1 (same_list (own_path t) xs (own_long ∙ sym long) (λ g low. own_agrees t comb (slice_index xs) start own g (omega arith))))
    (λ same. own_from t comb (slice_index xs) (λ g low. ap (λ (ys : Path). get_or ys g 0) (same_path (own_path t) xs same)))

module _ {E : Type 0} (c : Symbols E) (laws : RingLaws c.ring c.held) (unital : IsUnital c) where
  abbrev x : E → E → E
  x = c.ring.product

  -- the factors of a node, where the tree below it has its own labels
  node_value : (left above own fuse : Bool) → (own ≡ true → left ≡ true) → (own ≡ true → above ≡ true → fuse ≡ true)
      → x (x (mark c.ring (left && above)) (mark c.ring own)) (mark c.ring fuse) ≡ mark c.ring (own && above)
  node_value left above false fuse is_left fuses =
      ap (λ y. x y (mark c.ring fuse)) (laws.product-zero _) ∙ zero-product laws _
  node_value left true true fuse is_left fuses =
      ap₂ (λ a b. x (x (mark c.ring (a && true)) c.ring.one) (mark c.ring b)) (is_left refl) (fuses refl refl)
      ∙ (ap (λ y. x y c.ring.one) (laws.product-one c.ring.one laws.one_is) ∙ laws.product-one c.ring.one laws.one_is)
  node_value left false true fuse is_left fuses =
      ap (λ a. x (x (mark c.ring (a && false)) c.ring.one) (mark c.ring fuse)) (is_left refl)
      ∙ (ap (λ y. x y (mark c.ring fuse)) (zero-product laws c.ring.one) ∙ zero-product laws _)

  -- the path amplitude of a left-combed tree from the unit
  amplitude_is : (t : Labelled) → LeftStart c.fuse c.count t → (labels : ℕ → ℕ) → labels 0 ≡ 0 → path_amplitude c t labels 0 ≡ mark c.ring (own_here t labels)
  unfolding own_here
  amplitude_is (Strand a) start labels unit = ap (mark c.ring) (ap (λ p. c.fuse p a (labels 1)) unit ∙ unital.unit a (labels 1) (low a start.below))
    where
      low : (m : ℕ) → nat_lt m c.count ≡ true → m < c.count
      low m h = grind (arith, nat_tests)
  amplitude_is (Joined l (Joined u v w) q) start labels unit = absurd (cc)
  amplitude_is (Joined l (Strand a) q) start labels unit =
      let k = 0 + size l in
      let below = and_true (nat_lt q c.count) (labels_below c.count l && nat_lt a c.count) start.below in
      let fits = and_true (c.fuse (label l) a q) (is_admissible c.fuse l && true) start.admissible in
      let rest : LeftStart c.fuse c.count l = record { comb = start.comb; below = (and_true (labels_below c.count l) (nat_lt a c.count) below.1).0; admissible = (and_true (is_admissible c.fuse l) true fits.1).0 } in
      ap₂ (λ h y. x (x h y) (mark c.ring (c.fuse (labels k) a (labels (k + 1)))))
      (ap (λ p. c.h p (label l) a (labels (k + 1)) q (labels k)) unit ∙ unital.h (label l) a (labels (k + 1)) q (labels k) fits.0)
      (amplitude_is l rest labels unit)
      ∙ node_value (label l == labels k) (q == labels (k + 1)) (own_here l labels) (c.fuse (labels k) a (labels (k + 1)))
      (λ own. test_true (label l) (labels k) (sym (own_top l start.comb labels own)))
      (λ own above. ap₂ (λ f e. c.fuse f a e) (own_top l start.comb labels own) (sym (tells q (labels (k + 1)) above)) ∙ fits.0)

  units : (a : ℕ) → a < c.count → c.fuse 0 a a ≡ true
  units a low = unital.unit a a low ∙ test_true a a refl

  at_unit : (strands : List ℕ) (xs : Path) → is_path c strands xs ≡ true → slice_index xs 0 ≡ 0
  at_unit strands [] h = refl
  at_unit strands (y ∷ ys) h = tells y 0 (and_true (y == 0) (goes_on c 0 strands ys) h).0

  -- the start vector of a left-combed tree is that of its own path
  pub start_is_own : StartsAtOwnPath c
  start_is_own tree is = fun_ext (λ xs. pick xs (is_path c (leaves tree) xs) refl)
    where
      start : LeftStart c.fuse c.count tree
      start = left_start c.fuse c.count tree is

      pick : (xs : Path) (b : Bool) → is_path c (leaves tree) xs ≡ b → (if b then path_amplitude c tree (slice_index xs) 0 else c.ring.zero) ≡ own_vector c.ring tree xs
      pick xs true path =
          amplitude_is tree start (slice_index xs) (at_unit (leaves tree) xs path)
          ∙ ap (mark c.ring) (own_is_here tree start.comb xs (at_unit (leaves tree) xs path)
          ((path_along c (leaves tree) xs unital.some path).long ∙ ap (λ n. n + 1) (length-leaves tree)))
      pick xs false path = elim (true_or_false (bytes_eq (own_path tree) xs)) [
        | inl same ↦
            absurd (true≢false (sym (own_is_path c tree units start) ∙ (ap (is_path c (leaves tree)) (same_path (own_path tree) xs same) ∙ path)))
        | inr other ↦ sym (ap (mark c.ring) other)
      ]
