-- A raise keeps what a state stands for.
use Rattle.std.proofs.Common.{◌≡◌, ℕ, zero, suc, ◌+◌, ◌-◌, ◌<◌, ◌≤◌, Bool, true, false, List, [], ◌∷◌, Option, Some, unwrap_or, length, refl, ap, sym, ◌∙◌, ◌⊎◌, inl, inr, arith, slice_index}
use mathlib.Core.Path.{fun_ext}
use Rattle.std.specs.Prelude.{if◌then◌else◌, nat_lt, slice_get}
use Rattle.std.specs.Str.{bytes_eq}
use Rattle.std.specs.List.{AllByRecursion}
use Rattle.std.specs.List.Sorted.{IsStrictlySortedBy}
use Rattle.std.specs.Map.{keys_of}
use Rattle.std.specs.declared.cmp.Ordering.TheVariants.{Less, Equal}
use Rattle.std.proofs.lemmas.List.Elements.{All-from_recursion}
use Rattle.ring_laws.specs.Ring.{Ring, RingLaws}
use Rattle.ring_laws.specs.Sums.{total, sum_over}
use Rattle.ring_laws.proofs.SumLemmas as S
use Rattle.ring_laws.proofs.StatedLemmas.{some_inj}
use Rattle.symbol_table.specs.Symbols.{Symbols}
use Rattle.tree_shapes.specs.Labelled.{Labelled, Strand, Joined, label}
use Rattle.tree_shapes.specs.Labelled as L
use Rattle.tree_shapes.specs.Outlines.{Outline, Tip, Branch, size, top_gap, raise_at, labelled_at, with_labels}
use Rattle.amp_store.specs.Amplitudes.{key_cmp, amplitude_at, amplitude_of}
use Rattle.amp_store.proofs.EditLemmas.{eq_turned, same_keys}
use Rattle.comb_laws.specs.Paths.{is_path}
use Rattle.comb_laws.specs.Amplitudes.{path_amplitude, stands_for}
use Rattle.symbol_table.specs.AllLabels.{IsProper, HasEquations}
use Rattle.tree_laws.specs.Recoupling.{turned, raised_left, raised_right}
use Rattle.tree_laws.specs.Trees.{top, amplitude}
use Rattle.tree_shapes.specs.Contexts.{Around, fill, place, on_left, on_right}
use Rattle.tree_laws.specs.Entries.{labels_of, listed, value_at, KeyHas, AreKeys, comb_of, values}
use Rattle.tree_shapes.specs.Contexts.{IsRaisedLeft, IsRaisedRight}
use Rattle.tree_shapes.proofs.ContextLemmas.{size_above, fill_size, place_below}
use Rattle.tree_shapes.proofs.RotationLemmas.{raised_is}
use Rattle.tree_shapes.proofs.TestLemmas.{less, not_less}
use Rattle.tree_laws.proofs.Keys.{Key}
use Rattle.tree_laws.proofs.Coherence.{raising_left_keeps, raising_right_keeps}
use Rattle.recouple.specs.Rotations.{IsKey, before, rotation_of}
use Rattle.recouple.specs.Raises.{raise_term, raised, AreOver}
use Rattle.recouple.specs.declared.rotation.Rotation.{Rotation}
use Rattle.recouple.proofs.RotationLemmas.{rotation_at, left_rotation, right_rotation, listed_get, turned_list, label_is}
use Rattle.recouple.proofs.EndLemmas.{entry_has}

-- a labelled tree's path amplitude is that of its outline and labels
labelled_size : (t : Outline) (strand key : ℕ → ℕ) (i : ℕ) → L.size (labelled_at t strand key i) ≡ size t
labelled_size Tip strand key i = refl
labelled_size (Branch l r) strand key i = λ j. labelled_size l strand key i j + labelled_size r strand key (i + size l) j

labelled_top : (t : Outline) (strand key : ℕ → ℕ) (i : ℕ) → label (labelled_at t strand key i) ≡ top t strand key i
labelled_top Tip strand key i = refl
labelled_top (Branch l r) strand key i = refl

labelled_is : {E : Type 0} (c : Symbols E) (t : Outline) (strand x key : ℕ → ℕ) (i : ℕ) → path_amplitude c (labelled_at t strand key i) x i ≡ amplitude c t strand x key i
labelled_is c Tip strand x key i = refl
labelled_is c (Branch l r) strand x key i =
    let first = labelled_is c l strand x key i in
    let second = labelled_is c r strand x key (i + size l) in
    let nl = labelled_size l strand key i in
    let nr = labelled_size r strand key (i + size l) in
    let tl = labelled_top l strand key i in
    let tr = labelled_top r strand key (i + size l) in
    (λ j. c.ring.product (c.ring.product (c.h (x i) (tl j) (tr j) (x ((i + nl j) + nr j)) (key (i + size l)) (x (i + nl j))) (first j)) (path_amplitude c (labelled_at r strand key (i + size l)) x (i + nl j)))
    ∙ ap (c.ring.product (c.ring.product (c.h (x i) (top l strand key i) (top r strand key (i + size l)) (x ((i + size l) + size r)) (key (i + size l)) (x (i + size l))) (amplitude c l strand x key i))) second

-- what a state stands for, by its outline
pub sums_are : {E : Type 0} (c : Symbols E) (t : Outline) (strands x : List ℕ) (es : List (List ℕ × E))
    → sum_over c.ring (λ (e : List ℕ × E). c.ring.product e.1 (path_amplitude c (with_labels t strands e.0) (slice_index x) 0)) es ≡ comb_of c t (slice_index strands) es (slice_index x)
sums_are c t strands x [] = refl
sums_are c t strands x (e ∷ es) =
    λ j. c.ring.sum (c.ring.product e.1 (labelled_is c t (slice_index strands) (slice_index x) (labels_of e.0) 0 j)) (sums_are c t strands x es j)

value_by : {E : Type 0} (r : Ring E) (v w : E) (o : Option E) (b d : Bool) → b ≡ d → w ≡ unwrap_or o r.zero → (if b then v else w) ≡ unwrap_or (if d then Some v else o) r.zero
value_by r v w o true true h e = refl
value_by r v w o true false h e = absurd (cc)
value_by r v w o false true h e = absurd (cc)
value_by r v w o false false h e = e

pub value_is : {E : Type 0} (r : Ring E) (es : List (List ℕ × E)) (key : List ℕ) → value_at r es key ≡ amplitude_of r es key
value_is r [] key = refl
value_is r (e ∷ es) key = value_by r e.1 (value_at r es key) (amplitude_at es key) (bytes_eq e.0 key) (bytes_eq key e.0) (eq_turned e.0 key) (value_is r es key)

-- the keys of a state are apart, and have a label for each gap
above_apart : {E : Type 0} (es : List (List ℕ × E)) (k : List ℕ) → AllByRecursion (λ b. key_cmp k b ≡ Less) (keys_of es) → AllByRecursion (λ (d : List ℕ × E). d.0 ≡ k → ⊥) es
above_apart [] k h = tt
above_apart (e ∷ es) k h = ((λ same. let both : Less ≡ Equal = sym h.0 ∙ same_keys k e.0 (sym same) in absurd (cc)), above_apart es k h.1)

are_keys : {E : Type 0} (count n : ℕ) (es : List (List ℕ × E)) → IsStrictlySortedBy key_cmp (keys_of es) → ((i : ℕ) (e : List ℕ × E) → slice_get es i ≡ Some e → KeyHas count n e.0) → AreKeys count n es
unfolding IsStrictlySortedBy
are_keys count n [] s h = tt
are_keys {E} count n (e ∷ es) s h = (
  h 0 e refl,
  All-from_recursion (λ (d : List ℕ × E). d.0 ≡ e.0 → ⊥) es (above_apart es e.0 s.0),
  are_keys count n es s.1 (λ i d is. h (suc i) d is),
)

key_has : (count n m : ℕ) (key : List ℕ) → IsKey count n key → n ≡ m + 1 → KeyHas count m key
key_has count n m key is e = record {
  long = omega (arith, is.long);
  labels = λ i below. is.labels i 0 (omega (arith, is.long));
}

pub over_keys : {E : Type 0} (r : Ring E) (count n m : ℕ) (es : List (List ℕ × E)) → IsStrictlySortedBy key_cmp (keys_of es) → AreOver r count n es → n ≡ m + 1 → AreKeys count m es
over_keys {E} r count n m es s over e =
    are_keys count m es s (λ i d is. let has = entry_has es i d is in key_has count n m d.0 (over.keys d.0 has.0 has.1) e)

total_cong : {E : Type 0} (r : Ring E) (n : ℕ) (f g : ℕ → E) → ((t : ℕ) → f t ≡ g t) → total r n f ≡ total r n g
total_cong r zero f g h = refl
total_cong r (suc n) f g h = λ j. r.sum (total_cong r n f g h j) (h n j)

module _ {E : Type 0} (c : Symbols E) (strands : List ℕ) (a : Around) (A B C : Outline) (old new : List (List ℕ × E)) where
  abbrev strand : ℕ → ℕ
  strand = slice_index strands

  abbrev i : ℕ
  i = place a 0

  -- the new amplitudes of a node that was a left child
  pub left_values : (n m : ℕ) (key : Key) → m ≡ n → i + (size A + (size B + size C)) ≤ n + 1
      → amplitude_of c.ring new ≡ raised c strands (rotation_at A B C (i + size A) ((i + size A) + size B) i (i + size A) ((i + size A) + size B)) (amplitude_of c.ring old)
      → values c.ring m new key ≡ raised_left c A B C i strand (values c.ring n old) key
  left_values n m key same fits is =
      let k = i + size A in
      let p = (i + size A) + size B in
      let rotation = rotation_at A B C (i + size A) ((i + size A) + size B) i (i + size A) ((i + size A) + size B) in
      let y = listed 1 n key in
      let k_low : 0 < i + size A = omega (arith, size_above A) in
      let k_high : i + size A ≤ n = omega (arith, size_above B, size_above C) in
      let p_low : 0 < (i + size A) + size B = omega (arith, size_above A) in
      let p_high : (i + size A) + size B ≤ n = omega (arith, size_above C) in
      ap (λ l. values c.ring l new key) same
      ∙ (value_is c.ring new y
      ∙ (ap (λ (v : List ℕ → E). v y) is
      ∙ total_cong c.ring c.count (raise_term c strands rotation (amplitude_of c.ring old) y)
      (λ e. c.ring.product (c.f (top A strand key i) (top B strand key k) (top C strand key p) (key k) e (key p)) (values c.ring n old (turned k p key e)))
      (λ e. ap (λ x. c.ring.product x (amplitude_of c.ring old (before rotation y e)))
      (S.if_yes (nat_lt k p) _ _ (less k p (omega (arith, size_above B)))
      ∙ (λ j. c.f (label_is n strands key A i (omega arith) j) (label_is n strands key B k (omega (arith)) j) (label_is n strands key C p (omega arith) j) (listed_get n key k k_low k_high j) e (listed_get n key p p_low p_high j)))
      ∙ ap (c.ring.product (c.f (top A strand key i) (top B strand key k) (top C strand key p) (key k) e (key p)))
      (ap (amplitude_of c.ring old) (turned_list n k p key e rotation refl refl k_low k_high p_low p_high) ∙ sym (value_is c.ring old (listed 1 n (turned k p key e)))))))

  -- and of one that was a right child
  pub right_values : (n m : ℕ) (key : Key) → m ≡ n → i + (size A + (size B + size C)) ≤ n + 1
      → amplitude_of c.ring new ≡ raised c strands (rotation_at A B C ((i + size A) + size B) (i + size A) i (i + size A) ((i + size A) + size B)) (amplitude_of c.ring old)
      → values c.ring m new key ≡ raised_right c A B C i strand (values c.ring n old) key
  right_values n m key same fits is =
      let p = i + size A in
      let k = (i + size A) + size B in
      let rotation = rotation_at A B C ((i + size A) + size B) (i + size A) i (i + size A) ((i + size A) + size B) in
      let y = listed 1 n key in
      let p_low : 0 < i + size A = omega (arith, size_above A) in
      let p_high : i + size A ≤ n = omega (arith, size_above B, size_above C) in
      let k_low : 0 < (i + size A) + size B = omega (arith, size_above A) in
      let k_high : (i + size A) + size B ≤ n = omega (arith, size_above C) in
      ap (λ l. values c.ring l new key) same
      ∙ (value_is c.ring new y
      ∙ (ap (λ (v : List ℕ → E). v y) is
      ∙ total_cong c.ring c.count (raise_term c strands rotation (amplitude_of c.ring old) y)
      (λ e. c.ring.product (c.h (top A strand key i) (top B strand key p) (top C strand key k) (key k) e (key p)) (values c.ring n old (turned k p key e)))
      (λ e. ap (λ x. c.ring.product x (amplitude_of c.ring old (before rotation y e)))
      (S.if_no (nat_lt k p) _ _ (not_less k p (omega (arith, size_above B)))
      ∙ (λ j. c.h (label_is n strands key A i (omega arith) j) (label_is n strands key B p (omega (arith)) j) (label_is n strands key C k (omega arith) j) (listed_get n key k k_low k_high j) e (listed_get n key p p_low p_high j)))
      ∙ ap (c.ring.product (c.h (top A strand key i) (top B strand key p) (top C strand key k) (key k) e (key p)))
      (ap (amplitude_of c.ring old) (turned_list n k p key e rotation refl refl k_low k_high p_low p_high) ∙ sym (value_is c.ring old (listed 1 n (turned k p key e)))))))

-- What a raise leaves stands for the same.
module _ {E : Type 0} (c : Symbols E) (laws : RingLaws c.ring c.held) (proper : IsProper c) (has : HasEquations c) (strands : List ℕ) (k : ℕ) (t : Outline) (rotation : Rotation) (old new : List (List ℕ × E))
    (leaves : size t ≡ length strands) (old_order : IsStrictlySortedBy key_cmp (keys_of old)) (new_order : IsStrictlySortedBy key_cmp (keys_of new))
    (old_over : AreOver c.ring c.count (length strands) old) (new_over : AreOver c.ring c.count (length strands) new)
    (there : rotation_of t k ≡ Some rotation) (is : amplitude_of c.ring new ≡ raised c strands rotation (amplitude_of c.ring old)) where
  one_less : (s : Outline) → size s ≡ length strands → length strands ≡ (size s - 1) + 1
  one_less s e = omega (arith, e, size_above s)

  kept_left : (new_shape : Outline) → IsRaisedLeft k 0 t new_shape → (x : ℕ → ℕ) → comb_of c new_shape (slice_index strands) new x ≡ comb_of c t (slice_index strands) old x
  kept_left new_shape h x =
      let i = place h.around 0 in
      let A = h.first in
      let B = h.second in
      let C = h.third in
      let T = fill h.around (on_left A B C) in
      let T' = fill h.around (on_right A B C) in
      let sizes : size T' ≡ size T = fill_size h.around (on_right A B C) (on_left A B C) (omega arith) in
      let fits : i + ((size A + size B) + size C) ≤ 0 + size T = place_below h.around (on_left A B C) 0 in
      let whole : size T ≡ length strands = ap size (sym h.was) ∙ leaves in
      let turns : rotation_at A B C (i + size A) ((i + size A) + size B) i (i + size A) ((i + size A) + size B) ≡ rotation =
      some_inj _ _ (sym (left_rotation h.around A B C) ∙ ((λ j. rotation_of (sym h.was j) (sym h.gap j)) ∙ there)) in
      let values_is = λ (key : Key).
      left_values c strands h.around A B C old new (size T - 1) (size T' - 1) key (ap (λ n. n - 1) sizes) (omega (arith, fits, size_above T))
      (is ∙ ap (λ u. raised c strands u (amplitude_of c.ring old)) (sym turns)) in
      ap (λ s. comb_of c s (slice_index strands) new x) h.is
      ∙ (raising_left_keeps c laws proper has h.around A B C (slice_index strands) x old new
      (over_keys c.ring c.count (length strands) (size T - 1) old old_order old_over (one_less T whole))
      (over_keys c.ring c.count (length strands) (size T' - 1) new new_order new_over (one_less T' (sizes ∙ whole)))
      (λ key low. values_is key)
      ∙ ap (λ s. comb_of c s (slice_index strands) old x) (sym h.was))

  kept_right : (new_shape : Outline) → IsRaisedRight k 0 t new_shape → (x : ℕ → ℕ) → comb_of c new_shape (slice_index strands) new x ≡ comb_of c t (slice_index strands) old x
  kept_right new_shape h x =
      let i = place h.around 0 in
      let A = h.first in
      let B = h.second in
      let C = h.third in
      let T = fill h.around (on_right A B C) in
      let T' = fill h.around (on_left A B C) in
      let sizes : size T' ≡ size T = fill_size h.around (on_left A B C) (on_right A B C) (omega arith) in
      let fits : i + (size A + (size B + size C)) ≤ 0 + size T = place_below h.around (on_right A B C) 0 in
      let whole : size T ≡ length strands = ap size (sym h.was) ∙ leaves in
      let turns : rotation_at A B C ((i + size A) + size B) (i + size A) i (i + size A) ((i + size A) + size B) ≡ rotation =
      some_inj _ _ (sym (right_rotation h.around A B C) ∙ ((λ j. rotation_of (sym h.was j) (sym h.gap j)) ∙ there)) in
      let values_is = λ (key : Key).
      right_values c strands h.around A B C old new (size T - 1) (size T' - 1) key (ap (λ n. n - 1) sizes) (omega (arith, fits, size_above T))
      (is ∙ ap (λ u. raised c strands u (amplitude_of c.ring old)) (sym turns)) in
      ap (λ s. comb_of c s (slice_index strands) new x) h.is
      ∙ (raising_right_keeps c laws proper has h.around A B C (slice_index strands) x old new
      (over_keys c.ring c.count (length strands) (size T - 1) old old_order old_over (one_less T whole))
      (over_keys c.ring c.count (length strands) (size T' - 1) new new_order new_over (one_less T' (sizes ∙ whole)))
      (λ key low. values_is key)
      ∙ ap (λ s. comb_of c s (slice_index strands) old x) (sym h.was))

  kept_by : (new_shape : Outline) → IsRaisedLeft k 0 t new_shape ⊎ IsRaisedRight k 0 t new_shape → (x : ℕ → ℕ) → comb_of c new_shape (slice_index strands) new x ≡ comb_of c t (slice_index strands) old x
  kept_by new_shape (inl h) x = kept_left new_shape h x
  kept_by new_shape (inr h) x = kept_right new_shape h x

  pub comb_kept : 0 < k → k < size t → (k ≡ top_gap t 0 → ⊥) → stands_for c strands (with_labels (raise_at k t 0) strands) new ≡ stands_for c strands (with_labels t strands) old
  comb_kept low high off =
      fun_ext (λ x. ap (λ y. if is_path c strands x then y else c.ring.zero)
      (sums_are c (raise_at k t 0) strands x new
      ∙ (kept_by (raise_at k t 0) (raised_is k t 0 low (omega arith) off) (slice_index x) ∙ sym (sums_are c t strands x old))))
