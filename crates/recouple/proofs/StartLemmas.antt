-- The state of a tree with its own labels.
use Rattle.std.proofs.Common.{◌≡◌, ℕ, suc, ◌+◌, ◌-◌, ◌<◌, ◌≤◌, Bool, true, false, List, [], ◌∷◌, ◌++◌, length, get_or, Some, None, refl, ap, sym, ◌∙◌, subst, arith, slice_index}
use mathlib.Core.Path.{fun_ext}
use Rattle.std.specs.Prelude.{if◌then◌else◌, ◌&&◌, IsTrue}
use Rattle.std.specs.List.{AllByRecursion}
use Rattle.std.specs.Str.{bytes_eq}
use Rattle.std.proofs.Math.ListN.{get_or-append}
use Rattle.std.proofs.lemmas.List.{get_or-append-add, length-append}
use Rattle.std.proofs.lemmas.List.Elements.{All-from_recursion}
use Rattle.std.proofs.lemmas.Slice.Eq.{bytes_eq-Decides}
use Rattle.ring_laws.specs.Ring.{RingLaws}
use Rattle.symbol_table.specs.AllLabels.{IsProper}
use Rattle.symbol_table.specs.Symbols.{Symbols}
use Rattle.tree_shapes.specs.Labelled.{Labelled, Strand, Joined, label, leaves, node_labels, is_admissible}
use Rattle.tree_shapes.specs.Labelled as L
use Rattle.tree_shapes.specs.Outlines.{outline_of, labelled_at, with_labels, size}
use Rattle.word_runs.proofs.EachLemmas.{all_append}
use Rattle.comb_laws.proofs.StartLemmas.{length-leaves}
use Rattle.comb_laws.specs.Amplitudes.{path_amplitude, start_vector}
use Rattle.comb_laws.specs.Paths.{is_path}
use Rattle.recouple.specs.Rotations.{IsKey}
use Rattle.recouple.specs.States.{State, IsStateOf, comb}

pub size_above : (t : Labelled) → 0 < L.size t
size_above (Strand a) = omega arith
size_above (Joined l r q) = omega (arith, size_above l)

pub outline_size : (t : Labelled) → size (outline_of t) ≡ L.size t
outline_size (Strand a) = refl
outline_size (Joined l r q) = λ j. outline_size l j + outline_size r j

pub length-labels : (t : Labelled) → length (node_labels t) + 1 ≡ L.size t
length-labels (Strand a) = refl
length-labels (Joined l r q) = omega (arith, length-append (node_labels l) (q ∷ node_labels r), length-labels l, length-labels r)

-- what stands behind the first tree's labels, its node's label, and what stands behind that
behind : (xs ys : List ℕ) (n j : ℕ) → length xs ≡ n → get_or (xs ++ ys) (n + j) 0 ≡ get_or ys j 0
behind xs ys n j e = ap (λ m. get_or (xs ++ ys) (m + j) 0) (sym e) ∙ get_or-append-add xs ys j 0

-- the outline with a tree's own labels is the tree
own_at : (t : Labelled) (strand key : ℕ → ℕ) (i : ℕ) → ((j : ℕ) → j < L.size t → strand (i + j) ≡ get_or (leaves t) j 0)
    → ((j : ℕ) → j + 1 < L.size t → key ((i + j) + 1) ≡ get_or (node_labels t) j 0) → labelled_at (outline_of t) strand key i ≡ t
own_at (Strand a) strand key i s k = let e : i + 0 ≡ i = omega arith in ap Strand (ap strand (sym e) ∙ s 0 (omega arith))
own_at (Joined l r q) strand key i s k =
    let m = L.size l in
    let at : i + size (outline_of l) ≡ i + L.size l = ap (λ n. i + n) (outline_size l) in
    let some_l : 0 < L.size l = size_above l in
    let some_r : 0 < L.size r = size_above r in
    let labels_l : length (node_labels l) ≡ L.size l - 1 = omega (arith, length-labels l) in
    let here : (i + (L.size l - 1)) + 1 ≡ i + L.size l = omega arith in
    let left = own_at l strand key i
    (λ j low. s j (omega arith) ∙ get_or-append (leaves l) (leaves r) 0 j (omega (arith, length-leaves l)))
    (λ j low. k j (omega arith) ∙ get_or-append (node_labels l) (q ∷ node_labels r) 0 j (omega arith)) in
    let right = own_at r strand key (i + L.size l)
    (λ j low. let e : (i + L.size l) + j ≡ i + (L.size l + j) = omega arith in
    ap strand e ∙ (s (L.size l + j) (omega arith) ∙ behind (leaves l) (leaves r) (L.size l) j (length-leaves l)))
    (λ j low. let e : ((i + L.size l) + j) + 1 ≡ (i + ((L.size l - 1) + suc j)) + 1 = omega arith in
    ap key e ∙ (k ((L.size l - 1) + suc j) (omega arith) ∙ behind (node_labels l) (q ∷ node_labels r) (L.size l - 1) (suc j) labels_l)) in
    let node : key (i + L.size l) ≡ q =
    ap key (sym here) ∙ (k (L.size l - 1) (omega arith)
    ∙ (let e : L.size l - 1 ≡ (L.size l - 1) + 0 = omega arith in ap (λ n. get_or (node_labels l ++ q ∷ node_labels r) n 0) e
    ∙ behind (node_labels l) (q ∷ node_labels r) (L.size l - 1) 0 labels_l)) in
    (λ j. Joined (left j) (labelled_at (outline_of r) strand key (at j)) (key (at j))) ∙ (λ j. Joined l (right j) (node j))

pub own_labels : (t : Labelled) → with_labels (outline_of t) (leaves t) (node_labels t) ≡ t
own_labels t =
    own_at t (slice_index (leaves t)) (λ g. slice_index (node_labels t) (g - 1)) 0
    (λ j low. let e : 0 + j ≡ j = omega arith in ap (λ n. get_or (leaves t) n 0) e)
    (λ j low. let e : ((0 + j) + 1) - 1 ≡ j = omega arith in ap (λ n. get_or (node_labels t) n 0) e)

and_true : (b c : Bool) → (b && c) ≡ true → (b ≡ true) × (c ≡ true)
and_true true c h = (refl, h)
and_true false c h = absurd (cc)

module _ {E : Type 0} (c : Symbols E) (proper : IsProper c) where
  abbrev Low : ℕ → Type 0
  Low s = s < c.count

  -- all labels of an admissible tree are below the count
  labels_low : (t : Labelled) → is_admissible c.fuse t ≡ true → label t < c.count → AllByRecursion Low (leaves t) × AllByRecursion Low (node_labels t)
  labels_low (Strand a) is low = ((low, tt), tt)
  labels_low (Joined l r q) is low =
      let one = and_true (c.fuse (label l) (label r) q) (is_admissible c.fuse l && is_admissible c.fuse r) is in
      let two = and_true (is_admissible c.fuse l) (is_admissible c.fuse r) one.1 in
      let three = proper.labels (label l) (label r) q one.0 in
      let first = labels_low l two.0 three.0 in
      let second = labels_low r two.1 three.1 in
      (all_append Low (leaves l) (leaves r) first.0 second.0, all_append Low (node_labels l) (q ∷ node_labels r) first.1 (low, second.1))

  top_low : (t : Labelled) → is_admissible c.fuse t ≡ true → 2 ≤ L.size t → label t < c.count
  top_low (Strand a) is some = absurd (omega arith)
  top_low (Joined l r q) is some = (proper.labels (label l) (label r) q (and_true (c.fuse (label l) (label r) q) _ is).0).2

  single : {A : Type 0} (b : Bool) (v w : A) → (if b then Some v else None) ≡ Some w → (b ≡ true) × (v ≡ w)
  single true v w e = (refl, cc)
  single false v w e = absurd (cc)

  module _ (laws : RingLaws c.ring c.held) (t : Labelled) (is : is_admissible c.fuse t ≡ true) (some : 2 ≤ L.size t) where
    -- the state of the tree with its own labels
    abbrev pub own_state : State E
    own_state = record { strands = leaves t; shape = outline_of t; amps = (node_labels t, c.ring.one) ∷ [] }

    long : length (leaves t) ≡ length (node_labels t) + 1
    long = length-leaves t ∙ sym (length-labels t)

    pub own_of : IsStateOf c own_state
    own_of =
        let low = labels_low t is (top_low t is some) in
        let same = λ (key : List ℕ) (test : bytes_eq key (node_labels t) ≡ true). (bytes_eq-Decides key (node_labels t)).0 test in
        record {
          leaves = outline_size t ∙ sym (length-leaves t);
          labels = All-from_recursion Low (leaves t) low.0;
          over = record {
            members = λ key v e. let h = single (bytes_eq key (node_labels t)) c.ring.one v e in subst (λ x. IsTrue (c.ring.member x)) h.1 laws.one_is;
            keys = λ key v e.
                let h = single (bytes_eq key (node_labels t)) c.ring.one v e in
                subst (IsKey c.count (length (leaves t))) (sym (same key h.0)) (record { long = long; labels = All-from_recursion Low (node_labels t) low.1 });
          };
          admissible = λ key v e.
              let h = single (bytes_eq key (node_labels t)) c.ring.one v e in
              ap (λ k. is_admissible c.fuse (with_labels (outline_of t) (leaves t) k)) (same key h.0) ∙ (ap (is_admissible c.fuse) (own_labels t) ∙ is);
        }

    amplitude_is : (u : Labelled) (x : ℕ → ℕ) (i : ℕ) → IsTrue (c.ring.member (path_amplitude c u x i))
    amplitude_is (Strand a) x i = mark_is (c.fuse (x i) a (x (i + 1)))
      where
        mark_is : (b : Bool) → IsTrue (c.ring.member (if b then c.ring.one else c.ring.zero))
        mark_is true = laws.one_is
        mark_is false = laws.zero_is
    amplitude_is (Joined l r q) x i = laws.product_is _ _

    -- it stands for the start vector
    pub own_stands : comb c own_state ≡ start_vector c t
    own_stands = fun_ext (λ x.
        let A = path_amplitude c t (slice_index x) 0 in
        ap (λ s. if is_path c (leaves t) x then s else c.ring.zero)
        (ap (λ u. c.ring.sum (c.ring.product c.ring.one (path_amplitude c u (slice_index x) 0)) c.ring.zero) (own_labels t)
        ∙ (laws.sum-zero _ (laws.product_is _ _) ∙ (laws.product_comm _ _ ∙ laws.product-one A (amplitude_is t (slice_index x) 0)))))
