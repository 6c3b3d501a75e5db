-- The rotation of a node, from where it stands in the tree.
use Rattle.std.proofs.Common.{◌≡◌, ℕ, ◌+◌, ◌-◌, ◌<◌, ◌≤◌, Bool, true, false, List, Option, Some, None, length, get_or, set, refl, ap, sym, ◌∙◌, subst, inl, inr, arith, length-set, get_or-set_same, get_or-set_other, slice_index}
use Rattle.std.specs.Prelude.{if◌then◌else◌, nat_lt, ◌==◌}
use Rattle.std.specs.Option.{option_map}
use Rattle.std.proofs.lemmas.Grind.{same_number_lists}
use Rattle.std.proofs.lemmas.Bool.Decides.{eqb_tells}
use Rattle.ring_laws.proofs.SumLemmas as S
use Rattle.tree_shapes.specs.Outlines.{Outline, Tip, Branch, size, top_gap, gap_of, parent_at, raise_at}
use Rattle.tree_laws.specs.Recoupling.{turned}
use Rattle.tree_laws.specs.Trees.{top, put}
use Rattle.tree_shapes.specs.Contexts.{Around, fill, place, on_left, on_right}
use Rattle.tree_laws.specs.Entries.{listed}
use Rattle.tree_shapes.proofs.ContextLemmas.{size_above, fill_size, place_below}
use Rattle.tree_shapes.proofs.TestLemmas.{less, not_less}
use Rattle.tree_laws.proofs.Keys.{Key, put_here, put_off}
use Rattle.tree_laws.proofs.EntryLemmas.{length-listed, at_listed}
use Rattle.tree_shapes.proofs.ReaderLemmas as R
use Rattle.ring_laws.proofs.StatedLemmas.{some_inj}
use Rattle.tree_shapes.proofs.RotationLemmas.{raised_is, stays}
use Rattle.recouple.specs.Rotations.{IsBeside, IsRotation, label_at, before, spot_or, rotation_under, rotation_of}
use Rattle.recouple.specs.declared.rotation.Rotation.{Rotation}
use Rattle.recouple.specs.declared.rotation.Spot.{Spot}
use Rattle.recouple.specs.declared.rotation.Spot.TheVariants.{AtStrand, AtGap}

-- the top of a tree whose first strand is strand i + 1
abbrev pub spot_of : Outline → ℕ → Spot
spot_of Tip i = AtStrand i
spot_of (Branch l r) i = AtGap (i + size l)

left_is : (A : Outline) (i : ℕ) → spot_or (AtStrand ((i + size A) - 1)) (gap_of A i) ≡ spot_of A i
left_is Tip i = ap (λ (n : ℕ). AtStrand n) (omega arith)
left_is (Branch l r) i = refl

right_is : (A : Outline) (i : ℕ) → spot_or (AtStrand i) (gap_of A i) ≡ spot_of A i
right_is Tip i = refl
right_is (Branch l r) i = refl

-- a rotation by the three subtrees
abbrev pub rotation_at : Outline → Outline → Outline → (node parent i j m : ℕ) → Rotation
rotation_at A B C node parent i j m = record { node = node; parent = parent; first = spot_of A i; second = spot_of B j; third = spot_of C m }

pub left_rotation : (a : Around) (A B C : Outline) → let i = place a 0 in let k = i + size A in let p = k + size B in
    rotation_of (fill a (on_left A B C)) k ≡ Some (rotation_at A B C k p i k p)
left_rotation a A B C =
    let i = place a 0 in
    let k = place a 0 + size A in
    let p = (place a 0 + size A) + size B in
    let t = fill a (on_left A B C) in
    ap (option_map (rotation_under t k)) (R.left_parent a A B C)
    ∙ ap (λ (x : Rotation). Some x)
    (S.if_yes (nat_lt k p) _ _ (less k p (omega (arith, size_above B)))
    ∙ (λ j. record {
      node = k;
      parent = p;
      first = (ap (spot_or (AtStrand (k - 1))) (R.left_first a A B C) ∙ left_is A i) j;
      second = (ap (spot_or (AtStrand k)) (R.left_second a A B C) ∙ right_is B k) j;
      third = (ap (spot_or (AtStrand p)) (R.left_third a A B C) ∙ right_is C p) j;
    }))

pub right_rotation : (a : Around) (A B C : Outline) → let i = place a 0 in let p = i + size A in let k = p + size B in
    rotation_of (fill a (on_right A B C)) k ≡ Some (rotation_at A B C k p i p k)
right_rotation a A B C =
    let i = place a 0 in
    let p = place a 0 + size A in
    let k = (place a 0 + size A) + size B in
    let t = fill a (on_right A B C) in
    ap (option_map (rotation_under t k)) (R.right_parent a A B C)
    ∙ ap (λ (x : Rotation). Some x)
    (S.if_no (nat_lt k p) _ _ (not_less k p (omega (arith, size_above B)))
    ∙ (λ j. record {
      node = k;
      parent = p;
      first = (ap (spot_or (AtStrand (p - 1))) (R.right_first a A B C) ∙ left_is A i) j;
      second = (ap (spot_or (AtStrand (k - 1))) (R.right_second a A B C) ∙ left_is B p) j;
      third = (ap (spot_or (AtStrand k)) (R.right_third a A B C) ∙ right_is C k) j;
    }))

-- the label of a gap in the list of labels
pub listed_get : (n : ℕ) (key : Key) (g : ℕ) → 0 < g → g ≤ n → get_or (listed 1 n key) (g - 1) 0 ≡ key g
listed_get n key g low high = let back : 1 + (g - 1) ≡ g = omega arith in at_listed 1 n key (g - 1) (omega arith) ∙ ap key back

pub listed_put : (n : ℕ) (key : Key) (g t : ℕ) → 0 < g → g ≤ n → listed 1 n (put g t key) ≡ set (listed 1 n key) (g - 1) t
listed_put n key g t low high =
    same_number_lists _ _ (length-listed 1 n (put g t key) ∙ sym (length-set (listed 1 n key) (g - 1) t ∙ length-listed 1 n key)) (λ j l.
    let below : j < n = omega (arith, length-listed 1 n (put g t key)) in
    let long : length (listed 1 n key) ≡ n = length-listed 1 n key in
    at_listed 1 n (put g t key) j below
    ∙ elim (eqb_tells (1 + j) g) [
      | inl here ↦
          let at_g : j ≡ g - 1 = omega (arith, here.1) in
          ap (put g t key) here.1 ∙ (put_here g t key ∙ sym (ap (λ i. get_or (set (listed 1 n key) (g - 1) t) i 0) at_g ∙ get_or-set_same (listed 1 n key) (g - 1) t 0 (omega arith)))
      | inr off ↦
          put_off g t key (1 + j) off.1 ∙ sym (get_or-set_other (listed 1 n key) (g - 1) j t 0 (λ e. off.1 (omega arith)) ∙ at_listed 1 n key j below)
    ])

-- the old key of a rotation
pub turned_list : (n k p : ℕ) (key : Key) (t : ℕ) (rotation : Rotation) → rotation.node ≡ k → rotation.parent ≡ p → 0 < k → k ≤ n → 0 < p → p ≤ n
    → before rotation (listed 1 n key) t ≡ listed 1 n (turned k p key t)
turned_list n k p key t rotation ek ep k_low k_high p_low p_high =
    (λ j. set (set (listed 1 n key) (ep j - 1) (get_or (listed 1 n key) (ek j - 1) 0)) (ek j - 1) t)
    ∙ (ap (λ d. set (set (listed 1 n key) (p - 1) d) (k - 1) t) (listed_get n key k k_low k_high)
    ∙ sym (listed_put n (put p (key k) key) k t k_low k_high ∙ ap (λ l. set l (k - 1) t) (listed_put n key p (key k) p_low p_high)))

-- the label at the top of a subtree
pub label_is : (n : ℕ) (strands : List ℕ) (key : Key) (A : Outline) (i : ℕ) → i + size A ≤ n + 1 → label_at strands (listed 1 n key) (spot_of A i) ≡ top A (slice_index strands) key i
label_is n strands key Tip i h = refl
label_is n strands key (Branch l r) i h = listed_get n key (i + size l) (omega (arith, size_above l)) (omega (arith, size_above r))

-- a spot of a subtree is in the tree, beside the node and its parent
beside : (n k p : ℕ) (A : Outline) (i : ℕ) → i + size A ≤ n → ((g : ℕ) → i < g → g < i + size A → (g ≡ k → ⊥) × (g ≡ p → ⊥)) → IsBeside n k p (spot_of A i)
beside n k p Tip i high off = record { inside = omega arith; off_node = tt; off_parent = tt }
beside n k p (Branch l r) i high off =
    let here = off (i + size l) (omega (arith, size_above l)) (omega (arith, size_above r)) in
    record { inside = (omega (arith, size_above l), omega (arith, size_above r)); off_node = here.0; off_parent = here.1 }

valid_left : (n j : ℕ) (A B C : Outline) → j + ((size A + size B) + size C) ≤ n → IsRotation n (rotation_at A B C (j + size A) ((j + size A) + size B) j (j + size A) ((j + size A) + size B))
valid_left n j A B C high = record {
  node = record { low = omega (arith, size_above A); high = omega (arith, size_above B, size_above C) };
  parent = record { low = omega (arith, size_above A); high = omega (arith, size_above C) };
  apart = λ e. omega (arith, e, size_above B);
  first = beside n (j + size A) ((j + size A) + size B) A j (omega arith) (λ g a b. ((λ e. omega (arith, e)), (λ e. omega (arith, e))));
  second = beside n (j + size A) ((j + size A) + size B) B (j + size A) (omega arith) (λ g a b. ((λ e. omega (arith, e)), (λ e. omega (arith, e))));
  third = beside n (j + size A) ((j + size A) + size B) C ((j + size A) + size B) (omega arith) (λ g a b. ((λ e. omega (arith, e)), (λ e. omega (arith, e))));
}

valid_right : (n j : ℕ) (A B C : Outline) → j + ((size A + size B) + size C) ≤ n → IsRotation n (rotation_at A B C ((j + size A) + size B) (j + size A) j (j + size A) ((j + size A) + size B))
valid_right n j A B C high = record {
  node = record { low = omega (arith, size_above A); high = omega (arith, size_above C) };
  parent = record { low = omega (arith, size_above A); high = omega (arith, size_above B, size_above C) };
  apart = λ e. omega (arith, e, size_above B);
  first = beside n ((j + size A) + size B) (j + size A) A j (omega arith) (λ g a b. ((λ e. omega (arith, e)), (λ e. omega (arith, e))));
  second = beside n ((j + size A) + size B) (j + size A) B (j + size A) (omega arith) (λ g a b. ((λ e. omega (arith, e)), (λ e. omega (arith, e))));
  third = beside n ((j + size A) + size B) (j + size A) C ((j + size A) + size B) (omega arith) (λ g a b. ((λ e. omega (arith, e)), (λ e. omega (arith, e))));
}

pub rotation_by : (t s : Outline) (k k' : ℕ) (rotation rotation' : Rotation) → t ≡ s → k ≡ k' → rotation_of t k ≡ Some rotation → rotation_of s k' ≡ Some rotation' → rotation' ≡ rotation
rotation_by t s k k' rotation rotation' es ek is is' = some_inj _ _ (sym is' ∙ ((λ j. rotation_of (sym es j) (sym ek j)) ∙ is))

-- at the top there is no rotation
top_rotation : (t : Outline) (k : ℕ) → k ≡ top_gap t 0 → rotation_of t k ≡ None
top_rotation Tip k e = refl
top_rotation (Branch l r) k e =
    ap (option_map (rotation_under (Branch l r) k))
    (S.if_no (nat_lt k (0 + size l)) _ _ (not_less k (0 + size l) (omega (arith, e))) ∙ S.if_no (nat_lt (0 + size l) k) _ _ (not_less (0 + size l) k (omega (arith, e))))

pub rotation_valid : (t : Outline) (k : ℕ) (rotation : Rotation) → 0 < k → k < size t → rotation_of t k ≡ Some rotation → IsRotation (size t) rotation × (k ≡ top_gap t 0 → ⊥)
rotation_valid t k rotation low high is =
    let off : k ≡ top_gap t 0 → ⊥ = λ e. let none = top_rotation t k e in absurd (cc) in (
      elim (raised_is k t 0 low (omega arith) off) [
        | inl h ↦
            let fits : place h.around 0 + size (on_left h.first h.second h.third) ≤ 0 + size (fill h.around (on_left h.first h.second h.third)) = place_below h.around (on_left h.first h.second h.third) 0 in
            let whole : size t ≡ size (fill h.around (on_left h.first h.second h.third)) = ap size h.was in
            subst (IsRotation (size t)) (rotation_by t _ k _ rotation _ h.was h.gap is (left_rotation h.around h.first h.second h.third))
            (valid_left (size t) (place h.around 0) h.first h.second h.third (omega arith))
        | inr h ↦
            let fits : place h.around 0 + size (on_right h.first h.second h.third) ≤ 0 + size (fill h.around (on_right h.first h.second h.third)) = place_below h.around (on_right h.first h.second h.third) 0 in
            let whole : size t ≡ size (fill h.around (on_right h.first h.second h.third)) = ap size h.was in
            subst (IsRotation (size t)) (rotation_by t _ k _ rotation _ h.was h.gap is (right_rotation h.around h.first h.second h.third))
            (valid_right (size t) (place h.around 0) h.first h.second h.third (omega arith))
      ],
      off,
    )

-- the gap of a parent is in the tree
parent_by : (before here behind after : Bool) (m p : ℕ) (left right : Option ℕ) (P : ℕ → Type 0) → P m → (left ≡ Some p → P p) → (right ≡ Some p → P p)
    → (if before then (if here then Some m else left) else (if behind then (if after then Some m else right) else None)) ≡ Some p → P p
parent_by true true behind after m p left right P at l r is = subst P (some_inj m p is) at
parent_by true false behind after m p left right P at l r is = l is
parent_by false here true true m p left right P at l r is = subst P (some_inj m p is) at
parent_by false here true false m p left right P at l r is = r is
parent_by false here false after m p left right P at l r is = absurd (cc)

pub parent_range : (t : Outline) (i k p : ℕ) → parent_at t i k ≡ Some p → (i < p) × (p < i + size t)
parent_range Tip i k p is = absurd (cc)
parent_range (Branch l r) i k p is =
    parent_by (nat_lt k (i + size l)) (k == top_gap l i) (nat_lt (i + size l) k) (k == top_gap r (i + size l)) (i + size l) p (parent_at l i k) (parent_at r (i + size l) k)
    (λ q. (i < q) × (q < i + (size l + size r))) (omega (arith, size_above l), omega (arith, size_above r))
    (λ e. let h = parent_range l i k p e in (h.0, omega (arith, h.1)))
    (λ e. let h = parent_range r (i + size l) k p e in (omega (arith, h.0), omega (arith, h.1))) is

-- without a rotation nothing is raised
pub no_rotation : (t : Outline) (k : ℕ) → 0 < k → k < size t → rotation_of t k ≡ None → raise_at k t 0 ≡ t
no_rotation t k low high none =
    elim (eqb_tells k (top_gap t 0)) [
      | inl here ↦ stays t k here.1
      | inr off ↦ elim (raised_is k t 0 low (omega arith) off.1) [
        | inl h ↦ let some = sym ((λ j. rotation_of (h.was j) (h.gap j)) ∙ left_rotation h.around h.first h.second h.third) ∙ none in absurd (cc)
        | inr h ↦ let some = sym ((λ j. rotation_of (h.was j) (h.gap j)) ∙ right_rotation h.around h.first h.second h.third) ∙ none in absurd (cc)
      ]
    ]

pub raised_size : (t : Outline) (k : ℕ) → 0 < k → k < size t → (k ≡ top_gap t 0 → ⊥) → size (raise_at k t 0) ≡ size t
raised_size t k low high off =
    elim (raised_is k t 0 low (omega arith) off) [
      | inl h ↦ ap size h.is ∙ (fill_size h.around (on_right h.first h.second h.third) (on_left h.first h.second h.third) (omega arith) ∙ ap size (sym h.was))
      | inr h ↦ ap size h.is ∙ (fill_size h.around (on_left h.first h.second h.third) (on_right h.first h.second h.third) (omega arith) ∙ ap size (sym h.was))
    ]
