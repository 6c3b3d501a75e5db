-- Steps make of trees what they make of states, and the raises of a path make a pair.
use Rattle.std.proofs.Common.{◌≡◌, ℕ, ◌+◌, ◌<◌, ◌≤◌, Bool, true, false, List, [], ◌∷◌, ◌++◌, map, Some, None, refl, ap, sym, ◌∙◌, subst, arith}
use Rattle.std.specs.Prelude.{if◌then◌else◌, ◌==◌, nat_lt}
use Rattle.std.specs.List.{AllByRecursion}
use Rattle.std.proofs.lemmas.Bool.Decides.{nat_tests}
use Rattle.ring_laws.proofs.StatedLemmas.{some_inj}
use Rattle.ring_laws.proofs.SumLemmas as S
use Rattle.symbol_table.specs.Symbols.{Symbols}
use Rattle.tree_shapes.specs.Outlines.{Outline, Tip, Branch, Standing, size, top_gap, raise_at, turn_left, turn_right}
use Rattle.tree_shapes.specs.Contexts.{place}
use Rattle.tree_shapes.specs.Settling.{Settles, is_pair_at, left_spine, right_spine, settle_gaps, spines}
use Rattle.tree_shapes.proofs.ContextLemmas.{place_below, size_above}
use Rattle.tree_shapes.proofs.SettleLemmas.{HasNode, node_filled, node_there, settles_from}
use Rattle.tree_shapes.proofs.TestLemmas.{less}
use Rattle.program_text.specs.Form.{is_gap}
use Rattle.word_runs.specs.Told.{AreShapes, IsGap, after_raises, after_step}
use Rattle.word_runs.specs.declared.engine.Step.{Step}
use Rattle.word_runs.specs.declared.engine.Step.TheVariants.{Raise, Exchange}
use Rattle.word_runs.proofs.EachLemmas.{all_append, all_map}
use Rattle.comb_laws.specs.Paths.{labels}
use Rattle.amp_store.proofs.OrderLemmas.{filter_all}
use Rattle.recouple.specs.States.{State}
use Rattle.braid_act.specs.Exchanges.{exchange_fits, exchanged}
use Rattle.charge_project.specs.Splits.{any_left, part_at, parts_below}
use Rattle.runner.specs.Trees.{raise_fits, raised_state, stepped_at, tree_told}

-- a raise keeps the strands
turned_right : (l r : Outline) → size (turn_right l r) ≡ size l + size r
turned_right Tip r = refl
turned_right (Branch a b) r = omega arith

turned_left : (l r : Outline) → size (turn_left l r) ≡ size l + size r
turned_left l Tip = refl
turned_left l (Branch a b) = omega arith

size_by : (l r l' r' : Outline) (a b d e : Bool) → size l' ≡ size l → size r' ≡ size r
    → size (if a then (if b then turn_right l r else Branch l' r) else (if d then (if e then turn_left l r else Branch l r') else Branch l r)) ≡ size l + size r
size_by l r l' r' true true d e first second = turned_right l r
size_by l r l' r' true false d e first second = ap (λ n. n + size r) first
size_by l r l' r' false b true true first second = turned_left l r
size_by l r l' r' false b true false first second = ap (λ n. size l + n) second
size_by l r l' r' false b false e first second = refl

pub size_raised : (k : ℕ) (t : Outline) (i : ℕ) → size (raise_at k t i) ≡ size t
size_raised k Tip i = refl
size_raised k (Branch l r) i =
    size_by l r (raise_at k l i) (raise_at k r (i + size l)) (nat_lt k (i + size l)) (k == top_gap l i) (nat_lt (i + size l) k) (k == top_gap r (i + size l))
    (size_raised k l i) (size_raised k r (i + size l))

-- the raises of a path, where the node is
gaps_are : (t : Outline) (k : ℕ) (h : HasNode t 0 k) → settle_gaps t k ≡ right_spine h.left (place h.around 0) ++ left_spine h.right k
gaps_are t k h =
    ap (λ u. settle_gaps u k) h.is
    ∙ (ap (λ (s : Standing). spines s.tree s.start) (node_filled h.around h.left h.right k h.gap)
    ∙ ap (λ g. right_spine h.left (place h.around 0) ++ left_spine h.right g) (sym h.gap))

path_settles : (t : Outline) (k : ℕ) → HasNode t 0 k → Settles k t (settle_gaps t k)
path_settles t k h = subst (Settles k t) (sym (gaps_are t k h)) (settles_from h.left h.right h.around (place h.around 0) k t refl h.gap h.is)

-- a gap between two of the strands i + 1 .. i + n
pub record IsWithin (i n g : ℕ) : Type 0 where
  pub low : i < g
  pub high : g < i + n

within_left : (i m n g : ℕ) → IsWithin i m g → IsWithin i (m + n) g
within_left i m n g h = let high : g < i + m = h.high in record { low = h.low; high = omega arith }

within_right : (i m n g : ℕ) → IsWithin (i + m) n g → IsWithin i (m + n) g
within_right i m n g h =
    let low : i + m < g = h.low in
    let high : g < (i + m) + n = h.high in
    record { low = omega arith; high = omega arith }

within_top : (l r : Outline) (i : ℕ) → IsWithin i (size l + size r) (i + size l)
within_top l r i = record { low = omega (arith, size_above l); high = omega (arith, size_above r) }

right_within : (t : Outline) (i : ℕ) → AllByRecursion (IsWithin i (size t)) (right_spine t i)
right_within Tip i = tt
right_within (Branch l r) i = (within_top l r i, all_map (IsWithin (i + size l) (size r)) (IsWithin i (size l + size r)) (right_spine r (i + size l)) (within_right i (size l) (size r)) (right_within r (i + size l)))

left_within : (t : Outline) (i : ℕ) → AllByRecursion (IsWithin i (size t)) (left_spine t i)
left_within Tip i = tt
left_within (Branch l r) i = (within_top l r i, all_map (IsWithin i (size l)) (IsWithin i (size l + size r)) (left_spine l i) (within_left i (size l) (size r)) (left_within l i))

module _ {E : Type 0} (c : Symbols E) (n : ℕ) where
  -- the raises of a path are at gaps
  path_gaps : (t : Outline) (k : ℕ) → size t ≡ n → HasNode t 0 k → AllByRecursion (IsGap (tree_told c n)) (settle_gaps t k)
  path_gaps t k long h =
      let i = place h.around 0 in
      let inside : i + size (Branch h.left h.right) ≤ n = omega (arith, place_below h.around (Branch h.left h.right) 0, ap size h.is, long) in
      subst (AllByRecursion (IsGap (tree_told c n))) (sym (gaps_are t k h))
      (all_append (IsGap (tree_told c n)) (right_spine h.left i) (left_spine h.right k)
      (all_map (IsWithin i (size h.left)) (IsGap (tree_told c n)) (right_spine h.left i)
      (λ g w. let low : i < g = w.low in let high : g < i + size h.left = w.high in record { low = omega arith; high = omega (arith, inside) }) (right_within h.left i))
      (all_map (IsWithin k (size h.right)) (IsGap (tree_told c n)) (left_spine h.right k)
      (λ g w. let low : k < g = w.low in let high : g < k + size h.right = w.high in record { low = omega arith; high = omega (arith, inside, h.gap) }) (left_within h.right k)))

  -- after the raises of a path the node is a pair, of a tree of as many strands
  made_pair : (k : ℕ) (gs : List ℕ) (t : Outline) → Settles k t gs → is_pair_at (after_raises (tree_told c n) gs t) k ≡ true
  made_pair k [] t h = h
  made_pair k (g ∷ gs) t h = made_pair k gs (raise_at g t 0) h.1

  if_true : (b x : Bool) → x ≡ true → (if b then x else true) ≡ true
  if_true true x h = h
  if_true false x h = refl

  is_gap_yes : (k : ℕ) → IsGap (tree_told c n) k → is_gap n k ≡ true
  is_gap_yes k gap = S.and_yes (nat_lt 0 k) (nat_lt k n) (less 0 k gap.low) (less k n gap.high)

  has_node : (t : Outline) (k : ℕ) → size t ≡ n → IsGap (tree_told c n) k → HasNode t 0 k
  has_node t k long gap = let high : k < n = gap.high in node_there t 0 k gap.low (omega (arith, long))

  gaps_by : (t : Outline) (k : ℕ) (b : Bool) → (b ≡ true → size t ≡ n) → IsGap (tree_told c n) k → AllByRecursion (IsGap (tree_told c n)) (if b then settle_gaps t k else [])
  gaps_by t k true is gap = path_gaps t k (is refl) (has_node t k (is refl) gap)
  gaps_by t k false is gap = tt

  pair_by : (t : Outline) (k : ℕ) (b : Bool) → (size t == n) ≡ b → (b ≡ true → size t ≡ n) → IsGap (tree_told c n) k
      → (if size (after_raises (tree_told c n) (if b then settle_gaps t k else []) t) == n then is_pair_at (after_raises (tree_told c n) (if b then settle_gaps t k else []) t) k else true) ≡ true
  pair_by t k true test is gap =
      if_true (size (after_raises (tree_told c n) (settle_gaps t k) t) == n) (is_pair_at (after_raises (tree_told c n) (settle_gaps t k) t) k)
      (made_pair k (settle_gaps t k) t (path_settles t k (has_node t k (is refl) gap)))
  pair_by t k false test is gap = S.if_no (size t == n) (is_pair_at t k) true test

  same_size : (t : Outline) → (size t == n) ≡ true → size t ≡ n
  same_size t h = grind (arith, nat_tests)

  some_of : {A : Type 0} (b : Bool) (x y : A) → (if b then Some x else None) ≡ Some y → y ≡ x
  some_of true x y e = sym (some_inj x y e)
  some_of false x y e = absurd (cc)

  shape_after : (step : Step) (s s' : State E) → stepped_at c step s ≡ Some s' → s'.shape ≡ after_step (tree_told c n) step s.shape
  shape_after (Raise k) s s' h = ap (λ (x : State E). x.shape) (some_of (raise_fits c k s) (raised_state c k s) s' h)
  shape_after (Exchange k sign) s s' h = ap (λ (x : State E). x.shape) (some_of (exchange_fits c sign k s) (exchanged c sign k s) s' h)

-- what holds of a state's part at each label holds of its parts
pub all_parts : {E : Type 0} (P : ℕ × State E → Type 0) (k n : ℕ) (s : State E) → ((q : ℕ) → P (q, part_at k s q)) → AllByRecursion P (parts_below k s n)
all_parts {E} P k n s each = filter_all P (λ (p : ℕ × State E). any_left p.1.amps) (map (λ q. (q, part_at k s q)) (labels n)) (made (labels n))
  where
    made : (qs : List ℕ) → AllByRecursion P (map (λ q. (q, part_at k s q)) qs)
    made [] = tt
    made (q ∷ qs) = (each q, made qs)

pub tree_shapes : {E : Type 0} (c : Symbols E) (n : ℕ) → AreShapes (tree_told c n)
tree_shapes {E} c n = record {
  steps = shape_after c n;
  parts = λ k s ps h. subst (AllByRecursion (λ (part : ℕ × State E). part.1.shape ≡ s.shape)) (some_inj (parts_below k s c.count) ps h) (all_parts (λ (part : ℕ × State E). part.1.shape ≡ s.shape) k c.count s (λ q. refl));
  gaps = λ k t gap. gaps_by c n t k (size t == n) (same_size c n t) gap;
  pair = λ k t gap. S.and_yes (is_gap n k) _ (is_gap_yes c n k gap) (pair_by c n t k (size t == n) refl (same_size c n t) gap);
}
