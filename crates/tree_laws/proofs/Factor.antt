-- The amplitude of a tree is that of a subtree times that of what is around it.
use Rattle.std.proofs.Common.{◌≡◌, ℕ, ◌+◌, ◌<◌, ◌≤◌, Bool, true, false, refl, ap, sym, ◌∙◌, arith}
use Rattle.std.specs.Prelude.{IsTrue}
use Rattle.ring_laws.specs.Ring.{Held, RingLaws}
use Rattle.ring_laws.proofs.SumLemmas as S
use Rattle.symbol_table.specs.AllLabels.{mark}
use Rattle.symbol_table.specs.Symbols.{Symbols}
use Rattle.tree_shapes.specs.Contexts.{Around, Hole, OnLeft, OnRight, fill, place}
use Rattle.tree_shapes.specs.Outlines.{Outline, Tip, Branch, size}
use Rattle.tree_shapes.proofs.ContextLemmas.{size_above}
use Rattle.tree_laws.specs.Surroundings.{size_in, top_in, around}
use Rattle.tree_laws.specs.Trees.{top, amplitude}
use Rattle.tree_laws.proofs.Keys.{Key}

-- the same labels inside a tree of n strands at i
pub record Inside (i n : ℕ) (strand x key strand' x' key' : ℕ → ℕ) : Type 0 where
  pub strands : (g : ℕ) → i ≤ g → g < i + n → strand g ≡ strand' g
  pub paths : (g : ℕ) → i ≤ g → g ≤ i + n → x g ≡ x' g
  pub keys : (g : ℕ) → i < g → g < i + n → key g ≡ key' g

-- the same labels outside
pub record Outside (j n : ℕ) (strand x key strand' x' key' : ℕ → ℕ) : Type 0 where
  pub strands_before : (g : ℕ) → g < j → strand g ≡ strand' g
  pub strands_after : (g : ℕ) → j + n ≤ g → strand g ≡ strand' g
  pub paths_before : (g : ℕ) → g ≤ j → x g ≡ x' g
  pub paths_after : (g : ℕ) → j + n ≤ g → x g ≡ x' g
  pub keys_before : (g : ℕ) → g ≤ j → key g ≡ key' g
  pub keys_after : (g : ℕ) → j + n ≤ g → key g ≡ key' g

-- and so inside both children
pub inside_left : (l r : Outline) (strand x key strand' x' key' : ℕ → ℕ) (i : ℕ) → Inside i (size l + size r) strand x key strand' x' key' → Inside i (size l) strand x key strand' x' key'
inside_left l r strand x key strand' x' key' i h = record {
  strands = λ g above below. h.strands g above (omega (arith, size_above r));
  paths = λ g above below. h.paths g above (omega (arith, size_above r));
  keys = λ g above below. h.keys g above (omega (arith, size_above r));
}

pub inside_right : (l r : Outline) (strand x key strand' x' key' : ℕ → ℕ) (i : ℕ) → Inside i (size l + size r) strand x key strand' x' key' → Inside (i + size l) (size r) strand x key strand' x' key'
inside_right l r strand x key strand' x' key' i h = record {
  strands = λ g above below. h.strands g (omega (arith, size_above l)) (omega arith);
  paths = λ g above below. h.paths g (omega (arith, size_above l)) (omega arith);
  keys = λ g above below. h.keys g (omega (arith, size_above l)) (omega arith);
}

pub top_inside : (t : Outline) (strand x key strand' x' key' : ℕ → ℕ) (i : ℕ)
    → Inside i (size t) strand x key strand' x' key' → top t strand key i ≡ top t strand' key' i
top_inside Tip strand x key strand' x' key' i h = h.strands i (omega arith) (omega arith)
top_inside (Branch l r) strand x key strand' x' key' i h = h.keys (i + size l) (omega (arith, size_above l)) (omega (arith, size_above r))

pub size_in_is : (a : Around) (t : Outline) → size_in a (size t) ≡ size (fill a t)
size_in_is Hole t = refl
size_in_is (OnLeft a r) t = ap (λ n. n + size r) (size_in_is a t)
size_in_is (OnRight l a) t = ap (λ n. size l + n) (size_in_is a t)

pub size_in_above : (a : Around) (n : ℕ) → n ≤ size_in a n
size_in_above Hole n = omega arith
size_in_above (OnLeft a r) n = omega (arith, size_in_above a n)
size_in_above (OnRight l a) n = omega (arith, size_in_above a n)

pub place_in : (a : Around) (n i : ℕ) → (i ≤ place a i) × (place a i + n ≤ i + size_in a n)
place_in Hole n i = (omega arith, omega arith)
place_in (OnLeft a r) n i = let h = place_in a n i in (h.0, omega (arith, h.1))
place_in (OnRight l a) n i = let h = place_in a n (i + size l) in (omega (arith, h.0), omega (arith, h.1))

pub top_in_is : (a : Around) (t : Outline) (strand key : ℕ → ℕ) (i : ℕ) → top_in a (top t strand key (place a i)) (size t) key i ≡ top (fill a t) strand key i
top_in_is Hole t strand key i = refl
top_in_is (OnLeft a r) t strand key i = ap (λ n. key (i + n)) (size_in_is a t)
top_in_is (OnRight l a) t strand key i = refl

pub top_outside : (a : Around) (q n : ℕ) (strand x key strand' x' key' : ℕ → ℕ) (i : ℕ) → 0 < n
    → Outside (place a i) n strand x key strand' x' key' → top_in a q n key i ≡ top_in a q n key' i
top_outside Hole q n strand x key strand' x' key' i pos h = refl
top_outside (OnLeft a r) q n strand x key strand' x' key' i pos h = h.keys_after (i + size_in a n) ((place_in a n i).1)
top_outside (OnRight l a) q n strand x key strand' x' key' i pos h = h.keys_before (i + size l) ((place_in a n (i + size l)).0)

-- the same labels at the gaps inside a tree of n strands at i
abbrev pub Same : ℕ → ℕ → Key → Key → Type 0
Same i n a b = (g : ℕ) → i < g → g < i + n → a g ≡ b g

same_inside : (i n : ℕ) (strand x : ℕ → ℕ) (a b : Key) → Same i n a b → Inside i n strand x a strand x b
same_inside i n strand x a b h = record { strands = λ g above below. refl; paths = λ g above below. refl; keys = h }

pub top_same : (t : Outline) (strand : ℕ → ℕ) (a b : Key) (i : ℕ) → Same i (size t) a b → top t strand a i ≡ top t strand b i
top_same t strand a b i h = top_inside t strand strand a strand strand b i (same_inside i (size t) strand strand a b h)

module _ {E : Type 0} (c : Symbols E) {K : Held E} (laws : RingLaws c.ring K) where
  abbrev o : E → E → E
  o = c.ring.product

  pub amplitude_is : (t : Outline) (strand x key : ℕ → ℕ) (i : ℕ) → IsTrue (c.ring.member (amplitude c t strand x key i))
  amplitude_is Tip strand x key i = mark_is (c.fuse (x i) (strand i) (x (i + 1)))
    where
      mark_is : (b : Bool) → IsTrue (c.ring.member (mark c b))
      mark_is true = laws.one_is
      mark_is false = laws.zero_is
  amplitude_is (Branch l r) strand x key i = laws.product_is _ _

  pub inside_same : (t : Outline) (strand x key strand' x' key' : ℕ → ℕ) (i : ℕ)
      → Inside i (size t) strand x key strand' x' key' → amplitude c t strand x key i ≡ amplitude c t strand' x' key' i
  inside_same Tip strand x key strand' x' key' i h =
      λ j. mark c (c.fuse (h.paths i (omega arith) (omega arith) j) (h.strands i (omega arith) (omega arith) j) (h.paths (i + 1) (omega arith) (omega arith) j))
  inside_same (Branch l r) strand x key strand' x' key' i h =
      let k = i + size l in
      let in_l : Inside i (size l) strand x key strand' x' key' = inside_left l r strand x key strand' x' key' i h in
      let in_r : Inside (i + size l) (size r) strand x key strand' x' key' = inside_right l r strand x key strand' x' key' i h in
      let x_i : x i ≡ x' i = h.paths i (omega arith) (omega arith) in
      let x_k : x (i + size l) ≡ x' (i + size l) = h.paths (i + size l) (omega arith) (omega arith) in
      let x_e : x ((i + size l) + size r) ≡ x' ((i + size l) + size r) = h.paths ((i + size l) + size r) (omega arith) (omega arith) in
      let key_k : key (i + size l) ≡ key' (i + size l) = h.keys (i + size l) (omega (arith, size_above l)) (omega (arith, size_above r)) in
      λ j. o (o (c.h (x_i j) (top_inside l strand x key strand' x' key' i in_l j) (top_inside r strand x key strand' x' key' (i + size l) in_r j) (x_e j) (key_k j) (x_k j))
      (inside_same l strand x key strand' x' key' i in_l j)) (inside_same r strand x key strand' x' key' (i + size l) in_r j)

  pub amp_same : (t : Outline) (strand x : ℕ → ℕ) (a b : Key) (i : ℕ) → Same i (size t) a b → amplitude c t strand x a i ≡ amplitude c t strand x b i
  amp_same t strand x a b i h = inside_same t strand x a strand x b i (same_inside i (size t) strand x a b h)

  pull_left : (h w t r : E) → o (o h (o w t)) r ≡ o (o (o h w) r) t
  pull_left h w t r = simp (laws.product_assoc, laws.product_comm, S.product_left laws)

  -- the amplitude of the whole
  pub factor : (a : Around) (t : Outline) (strand x key : ℕ → ℕ) (i : ℕ)
      → amplitude c (fill a t) strand x key i ≡ o (around c a (top t strand key (place a i)) (size t) strand x key i) (amplitude c t strand x key (place a i))
  factor Hole t strand x key i = sym (laws.product_comm _ _ ∙ laws.product-one _ (amplitude_is t strand x key i))
  factor (OnLeft a r) t strand x key i =
      let sizes = sym (size_in_is a t) in
      let tops = sym (top_in_is a t strand key i) in
      let W = around c a (top t strand key (place a i)) (size t) strand x key i in
      let k = i + size (fill a t) in
      ap (λ y. o (o (c.h (x i) (top (fill a t) strand key i) (top r strand key k) (x (k + size r)) (key k) (x k)) y) (amplitude c r strand x key k)) (factor a t strand x key i)
      ∙ (pull_left _ _ _ _
      ∙ (λ j. o (o (o (c.h (x i) (tops j) (top r strand key (i + sizes j)) (x ((i + sizes j) + size r)) (key (i + sizes j)) (x (i + sizes j))) W) (amplitude c r strand x key (i + sizes j))) (amplitude c t strand x key (place a i))))
  factor (OnRight l a) t strand x key i =
      let k = i + size l in
      let sizes = sym (size_in_is a t) in
      let tops = sym (top_in_is a t strand key k) in
      let W = around c a (top t strand key (place a k)) (size t) strand x key k in
      ap (λ y. o (o (c.h (x i) (top l strand key i) (top (fill a t) strand key k) (x (k + size (fill a t))) (key k) (x k)) (amplitude c l strand x key i)) y) (factor a t strand x key k)
      ∙ (sym (laws.product_assoc _ _ _)
      ∙ (λ j. o (o (o (c.h (x i) (top l strand key i) (tops j) (x (k + sizes j)) (key k) (x k)) (amplitude c l strand x key i)) W) (amplitude c t strand x key (place a k))))

  -- what is around is the same where the labels outside are
  pub outside_same : (a : Around) (q n : ℕ) (strand x key strand' x' key' : ℕ → ℕ) (i : ℕ) → 0 < n
      → Outside (place a i) n strand x key strand' x' key' → around c a q n strand x key i ≡ around c a q n strand' x' key' i
  outside_same Hole q n strand x key strand' x' key' i pos h = refl
  outside_same (OnLeft a r) q n strand x key strand' x' key' i pos h =
      let k = i + size_in a n in
      let at_hole = place_in a n i in
      let wide : n ≤ size_in a n = size_in_above a n in
      let in_r : Inside (i + size_in a n) (size r) strand x key strand' x' key' = record {
        strands = λ g above below. h.strands_after g (omega (arith, at_hole.1));
        paths = λ g above below. h.paths_after g (omega (arith, at_hole.1));
        keys = λ g above below. h.keys_after g (omega (arith, at_hole.1));
      } in
      let tops : top_in a q n key i ≡ top_in a q n key' i = top_outside a q n strand x key strand' x' key' i pos h in
      let x_i : x i ≡ x' i = h.paths_before i at_hole.0 in
      let x_k : x (i + size_in a n) ≡ x' (i + size_in a n) = h.paths_after (i + size_in a n) at_hole.1 in
      let x_e : x ((i + size_in a n) + size r) ≡ x' ((i + size_in a n) + size r) = h.paths_after ((i + size_in a n) + size r) (omega (arith, at_hole.1)) in
      let key_k : key (i + size_in a n) ≡ key' (i + size_in a n) = h.keys_after (i + size_in a n) at_hole.1 in
      λ j. o (o (c.h (x_i j) (tops j) (top_inside r strand x key strand' x' key' k in_r j) (x_e j) (key_k j) (x_k j)) (outside_same a q n strand x key strand' x' key' i pos h j))
      (inside_same r strand x key strand' x' key' k in_r j)
  outside_same (OnRight l a) q n strand x key strand' x' key' i pos h =
      let k = i + size l in
      let at_hole = place_in a n (i + size l) in
      let in_l : Inside i (size l) strand x key strand' x' key' = record {
        strands = λ g above below. h.strands_before g (omega (arith, at_hole.0));
        paths = λ g above below. h.paths_before g (omega (arith, at_hole.0));
        keys = λ g above below. h.keys_before g (omega (arith, at_hole.0));
      } in
      let tops : top_in a q n key (i + size l) ≡ top_in a q n key' (i + size l) = top_outside a q n strand x key strand' x' key' (i + size l) pos h in
      let x_i : x i ≡ x' i = h.paths_before i (omega (arith, at_hole.0)) in
      let x_k : x (i + size l) ≡ x' (i + size l) = h.paths_before (i + size l) at_hole.0 in
      let x_e : x ((i + size l) + size_in a n) ≡ x' ((i + size l) + size_in a n) = h.paths_after ((i + size l) + size_in a n) (omega (arith, at_hole.1)) in
      let key_k : key (i + size l) ≡ key' (i + size l) = h.keys_before (i + size l) at_hole.0 in
      λ j. o (o (c.h (x_i j) (top_inside l strand x key strand' x' key' i in_l j) (tops j) (x_e j) (key_k j) (x_k j)) (inside_same l strand x key strand' x' key' i in_l j))
      (outside_same a q n strand x key strand' x' key' (i + size l) pos h j)
