-- What the evaluation of a weight gives is the weight of what the state stands for.
use Rattle.std.proofs.Common.{◌≡◌, ℕ, zero, suc, ◌+◌, ◌-◌, ◌<◌, ◌≤◌, Bool, true, false, List, [], ◌∷◌, map, Some, refl, ap, ap₂, sym, ◌∙◌, arith, slice_index}
use Rattle.std.specs.Prelude.{if◌then◌else◌, IsTrue}
use Rattle.std.specs.Str.{bytes_eq}
use Rattle.std.specs.List.{AllByRecursion}
use Rattle.std.proofs.lemmas.List.Elements.{All-from_recursion, recursion_from_All}
use Rattle.ring_laws.specs.Ring.{RingLaws}
use Rattle.ring_laws.specs.Stated.{◌>>=◌, conjugate_at, product_at, sum_at, steps}
use Rattle.ring_laws.specs.Sums.{sum_over}
use Rattle.ring_laws.proofs.StatedLemmas.{some_inj, bind_some, conjugate_given, product_given, sum_given, steps_over_total}
use Rattle.ring_laws.proofs.SumLemmas as S
use Rattle.symbol_table.specs.AllLabels.{IsProper, HasEquations, HasUnit, IsWeighted}
use Rattle.symbol_table.specs.Symbols.{Symbols}
use Rattle.tree_shapes.specs.Outlines.{Outline, Tip, Branch, Standing, size, node_at}
use Rattle.tree_shapes.proofs.ContextLemmas.{size_above}
use Rattle.comb_laws.specs.Operators.{weight}
use Rattle.tree_laws.specs.Entries.{labels_of, listed, value_at, AreKeys, over_entries, values}
use Rattle.tree_laws.specs.Trees.{top, stands_for}
use Rattle.tree_laws.specs.Weights.{state_weight, tree_weight}
use Rattle.tree_laws.specs.Weights as T
use Rattle.tree_laws.proofs.EntryLemmas.{entries_are, listed_same}
use Rattle.tree_laws.proofs.Factor.{Same, top_same}
use Rattle.tree_laws.proofs.Keys.{Key, gaps_same}
use Rattle.tree_laws.proofs.WeightLemmas.{weight_is}
use Rattle.path_laws.proofs.PlaceLemmas.{weight_by_place}
use Rattle.amp_store.specs.Amplitudes.{AreAmplitudes}
use Rattle.recouple.specs.States.{State, IsStateOf, comb}
use Rattle.charge_project.specs.Weights.{key_weight, node_weight, stated_weight, term_added, weight_step}
use Rattle.recouple.proofs.EntryLemmas.{comb_stands, keys_are}
use Rattle.charge_project.proofs.NodeLemmas.{left_label, right_label, left_here, right_here, node_on_left, node_on_right}

module _ {E : Type 0} (c : Symbols E) (laws : RingLaws c.ring c.held) where
  abbrev o : E → E → E
  o = c.ring.product

  abbrev conj : E → E
  conj = c.ring.conjugate

  -- the product of n factors from the i-th on
  product_of : (ℕ → E) → ℕ → ℕ → E
  product_of f i zero = c.ring.one
  product_of f i (suc n) = o (f i) (product_of f (i + 1) n)

  product_of_is : (f : ℕ → E) (i n : ℕ) → IsTrue (c.ring.member (product_of f i n))
  unfolding product_of
  product_of_is f i zero = laws.one_is
  product_of_is f i (suc n) = laws.product_is _ _

  one_product : (x : E) → IsTrue (c.ring.member x) → o c.ring.one x ≡ x
  one_product x m = laws.product_comm c.ring.one x ∙ laws.product-one x m

  -- products in order are the product
  products_given : (f : ℕ → E) (i n : ℕ) (s v : E) → IsTrue (c.ring.member s) → steps (λ k p. product_at c.ring p (f k)) i n s ≡ Some v → v ≡ o s (product_of f i n)
  unfolding product_of
  products_given f i zero s v m e = sym (some_inj s v e) ∙ sym (laws.product-one s m)
  products_given f i (suc n) s v m e =
      let first = bind_some (product_at c.ring s (f i)) (λ (next : E). steps (λ k p. product_at c.ring p (f k)) (i + 1) n next) v e in
      let is : first.0 ≡ o s (f i) = product_given c.ring s (f i) first.0 first.1 in
      products_given f (i + 1) n first.0 v (ap c.ring.member is ∙ laws.product_is s (f i)) first.2
      ∙ (ap (λ y. o y (product_of f (i + 1) n)) is ∙ laws.product_assoc s (f i) (product_of f (i + 1) n))

  product_split : (f : ℕ → E) (i m n : ℕ) → product_of f i (m + n) ≡ o (product_of f i m) (product_of f (i + m) n)
  unfolding product_of
  product_split f i zero n =
      let none : 0 + n ≡ n = omega arith in
      let here : i ≡ i + 0 = omega arith in
      ap (product_of f i) none ∙ (sym (one_product (product_of f i n) (product_of_is f i n)) ∙ ap (λ j. o c.ring.one (product_of f j n)) here)
  product_split f i (suc m) n =
      let up : suc m + n ≡ suc (m + n) = omega arith in
      let at : (i + 1) + m ≡ i + suc m = omega arith in
      ap (product_of f i) up
      ∙ (ap (o (f i)) (product_split f (i + 1) m n ∙ ap (λ j. o (product_of f (i + 1) m) (product_of f j n)) at)
      ∙ sym (laws.product_assoc (f i) (product_of f (i + 1) m) (product_of f (i + suc m) n)))

  product_same : (f g : ℕ → E) (i n : ℕ) → ((k : ℕ) → i ≤ k → k < i + n → f k ≡ g k) → product_of f i n ≡ product_of g i n
  unfolding product_of
  product_same f g i zero h = refl
  product_same f g i (suc n) h = ap₂ o (h i (omega arith) (omega arith)) (product_same f g (i + 1) n (λ k above below. h k (omega arith) (omega arith)))

  module _ (strands key : List ℕ) where
    abbrev st : ℕ → ℕ
    st = slice_index strands

    abbrev x : Key
    x = labels_of key

    -- the weight at a node
    abbrev under : ℕ → Standing → E
    under k s = c.w (left_label strands key k s) (right_label strands key k s) (slice_index key (k - 1))

    abbrev at_node : Outline → ℕ → ℕ → E
    at_node t i k = under k (node_at t i k)

    around : (a b w : E) → o a (o w b) ≡ o (o a b) w
    around a b w = simp (laws.product_assoc, laws.product_comm)

    -- the product in the order of gaps is the tree's weight
    tree_is : (t : Outline) (i : ℕ) → product_of (at_node t i) (i + 1) (size t - 1) ≡ tree_weight c t st x i
    unfolding product_of
    tree_is Tip i = refl
    tree_is (Branch l r) i =
        let f = at_node (Branch l r) i in
        let m = i + size l in
        let cut : (size l + size r) - 1 ≡ (size l - 1) + suc (size r - 1) = omega (arith, size_above l, size_above r) in
        let there : (i + 1) + (size l - 1) ≡ i + size l = omega (arith, size_above l) in
        let on_left : product_of f (i + 1) (size l - 1) ≡ tree_weight c l st x i =
        product_same f (at_node l i) (i + 1) (size l - 1) (λ k above below. ap (under k) (node_on_left l r i k (omega arith) (omega arith))) ∙ tree_is l i in
        let on_right : product_of f (m + 1) (size r - 1) ≡ tree_weight c r st x m =
        product_same f (at_node r m) (m + 1) (size r - 1) (λ k above below. ap (under k) (node_on_right l r i k (omega arith) (omega arith))) ∙ tree_is r m in
        let here : f m ≡ c.w (top l st x i) (top r st x m) (x m) = λ j. c.w (left_here strands key l r i j) (right_here strands key l r i j) (x m) in
        ap (product_of f (i + 1)) cut
        ∙ (product_split f (i + 1) (size l - 1) (suc (size r - 1))
        ∙ (ap (λ n. o (product_of f (i + 1) (size l - 1)) (product_of f n (suc (size r - 1)))) there
        ∙ ((λ j. o (on_left j) (o (here j) (on_right j))) ∙ around _ _ _)))

  tree_same : (t : Outline) (strand : ℕ → ℕ) (a b : Key) (i : ℕ) → Same i (size t) a b → tree_weight c t strand a i ≡ tree_weight c t strand b i
  tree_same Tip strand a b i h = refl
  tree_same (Branch l r) strand a b i h =
      let in_l : Same i (size l) a b = λ g above below. h g above (omega arith) in
      let in_r : Same (i + size l) (size r) a b = λ g above below. h g (omega arith) (omega arith) in
      let at_m : a (i + size l) ≡ b (i + size l) = h (i + size l) (omega (arith, size_above l)) (omega (arith, size_above r)) in
      λ j. o (o (tree_same l strand a b i in_l j) (tree_same r strand a b (i + size l) in_r j)) (c.w (top_same l strand a b i in_l j) (top_same r strand a b (i + size l) in_r j) (at_m j))

  -- each amplitude times its conjugate
  squared : List (List ℕ × E) → List (List ℕ × E)
  squared es = map (λ e. (e.0, o e.1 (conj e.1))) es

  all_squared : (P : List ℕ → Type 0) (es : List (List ℕ × E)) → AllByRecursion (λ (d : List ℕ × E). P d.0) es → AllByRecursion (λ (d : List ℕ × E). P d.0) (squared es)
  unfolding squared
  all_squared P [] h = tt
  all_squared P (e ∷ es) h = (h.0, all_squared P es h.1)

  squared_keys : (n : ℕ) (es : List (List ℕ × E)) → AreKeys c.count n es → AreKeys c.count n (squared es)
  unfolding squared
  squared_keys n [] h = tt
  squared_keys n (e ∷ es) h = (
    h.0,
    All-from_recursion (λ (d : List ℕ × E). d.0 ≡ e.0 → ⊥) (squared es) (all_squared (λ k. k ≡ e.0 → ⊥) es (recursion_from_All (λ (d : List ℕ × E). d.0 ≡ e.0 → ⊥) es h.1)),
    squared_keys n es h.2,
  )

  squared_value : (es : List (List ℕ × E)) (key : List ℕ) → value_at c.ring (squared es) key ≡ o (value_at c.ring es key) (conj (value_at c.ring es key))
  unfolding squared
  squared_value [] key = sym (S.zero-product laws (conj c.ring.zero))
  squared_value (e ∷ es) key = pick (bytes_eq e.0 key) (squared_value es key)
    where
      pick : (b : Bool) → value_at c.ring (squared es) key ≡ o (value_at c.ring es key) (conj (value_at c.ring es key))
          → (if b then o e.1 (conj e.1) else value_at c.ring (squared es) key) ≡ o (if b then e.1 else value_at c.ring es key) (conj (if b then e.1 else value_at c.ring es key))
      pick true h = refl
      pick false h = h

  module _ (s : State E) where
    abbrev strand : ℕ → ℕ
    strand = slice_index s.strands

    -- what a key weighs, and its term
    weight_of : Key → E
    weight_of key = tree_weight c s.shape strand key 0

    term : List ℕ × E → E
    term e = o (weight_of (labels_of e.0)) (o e.1 (conj e.1))

    key_given : (key : List ℕ) (v : E) → key_weight c s key ≡ Some v → v ≡ weight_of (labels_of key)
    unfolding weight_of
    key_given key v e =
        products_given (node_weight c s key) 1 (size s.shape - 1) c.ring.one v laws.one_is e
        ∙ (one_product _ (product_of_is (node_weight c s key) 1 (size s.shape - 1)) ∙ tree_is s.strands key s.shape 0)

    term_given : (w a sum v : E) → term_added c.ring w a sum ≡ Some v → v ≡ c.ring.sum sum (o w (o a (conj a)))
    term_given w a sum v e =
        let turned = bind_some (conjugate_at c.ring a) (λ (t : E). product_at c.ring a t >>= λ (q : E). product_at c.ring w q >>= λ (u : E). sum_at c.ring sum u) v e in
        let square = bind_some (product_at c.ring a turned.0) (λ (q : E). product_at c.ring w q >>= λ (u : E). sum_at c.ring sum u) v turned.2 in
        let whole = bind_some (product_at c.ring w square.0) (λ (u : E). sum_at c.ring sum u) v square.2 in
        sum_given c.ring sum whole.0 v whole.2
        ∙ ap (c.ring.sum sum) (product_given c.ring w square.0 whole.0 whole.1
        ∙ ap (o w) (product_given c.ring a turned.0 square.0 square.1 ∙ ap (o a) (conjugate_given c.ring a turned.0 turned.1)))

    step_given : (e : List ℕ × E) (sum v : E) → weight_step c s e sum ≡ Some v → v ≡ c.ring.sum sum (term e)
    unfolding term
    step_given e sum v is =
        let weights = bind_some (key_weight c s e.0) (λ (w : E). term_added c.ring w e.1 sum) v is in
        term_given weights.0 e.1 sum v weights.2 ∙ ap (λ w. c.ring.sum sum (o w (o e.1 (conj e.1)))) (key_given e.0 weights.0 weights.1)

    -- the evaluation gives the sum over the entries
    entries_given : (v : E) → stated_weight c s ≡ Some v → v ≡ sum_over c.ring term s.amps
    entries_given v e =
        steps_over_total laws (weight_step c s) term (λ e sum v m is. step_given e sum v is) s.amps c.ring.zero v laws.zero_is e
        ∙ S.zero-sum laws _ (S.sum_over_is laws term s.amps)

    terms_are : (es : List (List ℕ × E)) → sum_over c.ring term es ≡ over_entries c.ring (λ key a. o a (weight_of (labels_of key))) (squared es)
    unfolding term squared
    terms_are [] = refl
    terms_are (e ∷ es) = ap₂ c.ring.sum (laws.product_comm _ _) (terms_are es)

    module _ (is : IsStateOf c s) (order : AreAmplitudes c.held s.amps) where
      abbrev n : ℕ
      n = size s.shape - 1

      -- which is that over all keys
      pub state_given : (v : E) → stated_weight c s ≡ Some v → v ≡ state_weight c s.shape strand (values c.ring n s.amps)
      unfolding weight_of
      state_given v e =
          entries_given v e
          ∙ (terms_are s.amps
          ∙ (entries_are c laws n (squared s.amps) weight_of (squared_keys n s.amps (keys_are c s is order))
          (λ a b h. tree_same s.shape strand a b 0 (λ g above below. h g above (omega arith))) (λ _. 0)
          ∙ gaps_same c laws n _ _ (λ key.
          ap (λ y. o y (weight_of key)) (squared_value s.amps (listed 1 n key)) ∙ laws.product_comm _ _) (λ _. 0)))

      -- and the weight of what the state stands for
      pub weight_given : IsProper c → HasEquations c → HasUnit c → IsWeighted c → (v : E) → stated_weight c s ≡ Some v → v ≡ weight c s.strands (comb c s)
      weight_given proper equations unit weighted v e =
          state_given v e
          ∙ (sym (weight_is c laws proper equations unit weighted s.shape strand (values c.ring n s.amps)
          (is.labels 0 0 (omega (arith, is.leaves, size_above s.shape)))
          (λ a b h. ap (value_at c.ring s.amps) (listed_same n a b h)))
          ∙ (ap (λ m. T.weight c m strand (stands_for c s.shape strand (values c.ring n s.amps))) is.leaves
          ∙ sym (weight_by_place c laws proper s.strands (comb c s) (stands_for c s.shape strand (values c.ring n s.amps)) (λ x on. comb_stands c s is order laws x on))))
