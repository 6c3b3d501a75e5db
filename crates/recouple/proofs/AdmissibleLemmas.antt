-- A raise leaves admissible keys.
use Rattle.std.proofs.Common.{◌≡◌, ◌≢◌, ℕ, zero, suc, ◌+◌, ◌-◌, ◌<◌, ◌≤◌, Bool, true, false, List, Option, Some, None, unwrap_or, length, get_or, set, slice_index, get_or-set_same, get_or-set_other, refl, ap, sym, ◌∙◌, subst, ◌⊎◌, inl, inr, arith}
use Rattle.std.specs.Prelude.{◌&&◌, nat_lt}
use Rattle.ring_laws.specs.Ring.{RingLaws}
use Rattle.ring_laws.proofs.SumLemmas as S
use Rattle.symbol_table.specs.Symbols.{Symbols}
use Rattle.tree_shapes.specs.Labelled.{is_admissible, label}
use Rattle.tree_shapes.specs.Outlines.{Outline, Tip, Branch, size, labelled_at, with_labels}
use Rattle.tree_laws.specs.Trees.{top}
use Rattle.tree_shapes.specs.Contexts.{Around, Hole, OnLeft, OnRight, fill, place, on_left, on_right}
use Rattle.tree_laws.proofs.Factor.{Inside, Same, inside_left, inside_right, top_inside}
use Rattle.tree_shapes.proofs.ContextLemmas.{size_above, fill_size, place_above, place_below}
use Rattle.tree_laws.proofs.Keys.{Key}
use Rattle.tree_shapes.proofs.RotationLemmas.{raised_is}
use Rattle.tree_shapes.proofs.TestLemmas.{less, not_less}
use Rattle.ring_laws.specs.Sums.{total}
use Rattle.tree_shapes.specs.Outlines.{raise_at}
use Rattle.amp_store.specs.Amplitudes.{amplitude_at, amplitude_of, AreAmplitudes}
use Rattle.amp_store.proofs.EditLemmas.{nonzero_in}
use Rattle.recouple.specs.Rotations.{label_at, before, rotation_of}
use Rattle.recouple.specs.Raises.{factor, has_factor, raise_term, raised}
use Rattle.recouple.specs.declared.rotation.Rotation.{Rotation}
use Rattle.recouple.proofs.RotationLemmas.{spot_of, rotation_at, left_rotation, right_rotation, rotation_by, rotation_valid}

pub and_true : (b c : Bool) → (b && c) ≡ true → (b ≡ true) × (c ≡ true)
and_true true c h = (refl, h)
and_true false c h = absurd (cc)

module _ {E : Type 0} (c : Symbols E) (strand : ℕ → ℕ) where
  -- whether each node is admissible, by outline and labels
  abbrev pub adm : Outline → Key → ℕ → Bool
  adm Tip key i = true
  adm (Branch l r) key i = c.fuse (top l strand key i) (top r strand key (i + size l)) (key (i + size l)) && (adm l key i && adm r key (i + size l))

  labelled_top : (t : Outline) (key : Key) (i : ℕ) → label (labelled_at t strand key i) ≡ top t strand key i
  labelled_top Tip key i = refl
  labelled_top (Branch l r) key i = refl

  pub adm_is : (t : Outline) (key : Key) (i : ℕ) → is_admissible c.fuse (labelled_at t strand key i) ≡ adm t key i
  adm_is Tip key i = refl
  adm_is (Branch l r) key i =
      λ j. c.fuse (labelled_top l key i j) (labelled_top r key (i + size l) j) (key (i + size l)) && (adm_is l key i j && adm_is r key (i + size l) j)

-- by the labels inside alone
adm_inside : {E : Type 0} (c : Symbols E) (t : Outline) (strand x key strand' x' key' : ℕ → ℕ) (i : ℕ) → Inside i (size t) strand x key strand' x' key' → adm c strand t key i ≡ adm c strand' t key' i
adm_inside c Tip strand x key strand' x' key' i h = refl
adm_inside c (Branch l r) strand x key strand' x' key' i h =
    let in_l : Inside i (size l) strand x key strand' x' key' = inside_left l r strand x key strand' x' key' i h in
    let in_r : Inside (i + size l) (size r) strand x key strand' x' key' = inside_right l r strand x key strand' x' key' i h in
    let at_m : key (i + size l) ≡ key' (i + size l) = h.keys (i + size l) (omega (arith, size_above l)) (omega (arith, size_above r)) in
    λ j. c.fuse (top_inside l strand x key strand' x' key' i in_l j) (top_inside r strand x key strand' x' key' (i + size l) in_r j) (at_m j)
    && (adm_inside c l strand x key strand' x' key' i in_l j && adm_inside c r strand x key strand' x' key' (i + size l) in_r j)

module _ (strand strand' : ℕ → ℕ) (x y : Key) where
  -- the labels outside n strands from strand p + 1 on are the same
  pub record Beside (p n : ℕ) : Type 0 where
    pub strands_below : (g : ℕ) → g < p → strand g ≡ strand' g
    pub strands_above : (g : ℕ) → p + n ≤ g → strand g ≡ strand' g
    pub below : (g : ℕ) → 0 < g → g ≤ p → x g ≡ y g
    pub above : (g : ℕ) → p + n ≤ g → x g ≡ y g

-- Another tree in a hole, with other labels inside it.
module _ {E : Type 0} (c : Symbols E) (strand strand' : ℕ → ℕ) (s s' : Outline) (x y : Key) (sizes : size s ≡ size s') where
  top_in : (a : Around) (i : ℕ) → Beside strand strand' x y (place a i) (size s) → top s strand x (place a i) ≡ top s' strand' y (place a i) → top (fill a s) strand x i ≡ top (fill a s') strand' y i
  top_in Hole i off e = e
  top_in (OnLeft a r) i off e = off.above (i + size (fill a s)) (place_below a s i) ∙ ap (λ n. y (i + n)) (fill_size a s s' sizes)
  top_in (OnRight l a) i off e = off.below (i + size l) (omega (arith, size_above l)) (place_above a (i + size l))

  pub adm_in : (a : Around) (i : ℕ) → Beside strand strand' x y (place a i) (size s) → top s strand x (place a i) ≡ top s' strand' y (place a i)
      → (adm c strand s x (place a i) ≡ true → adm c strand' s' y (place a i) ≡ true) → adm c strand (fill a s) x i ≡ true → adm c strand' (fill a s') y i ≡ true
  adm_in Hole i off e inside is = inside is
  adm_in (OnLeft a r) i off e inside is =
      let m = i + size (fill a s) in
      let under : place a i + size s ≤ i + size (fill a s) = place_below a s i in
      let same : Inside m (size r) strand x x strand' x y = record {
        strands = λ g above below. off.strands_above g (omega arith);
        paths = λ g above below. refl;
        keys = λ g above below. off.above g (omega arith);
      } in
      let one = and_true (c.fuse (top (fill a s) strand x i) (top r strand x m) (x m)) _ is in
      let two = and_true (adm c strand (fill a s) x i) (adm c strand r x m) one.1 in
      let moved : m ≡ i + size (fill a s') = ap (λ n. i + n) (fill_size a s s' sizes) in
      subst (λ (n : ℕ). (c.fuse (top (fill a s') strand' y i) (top r strand' y n) (y n) && (adm c strand' (fill a s') y i && adm c strand' r y n)) ≡ true) moved
      (S.and_yes _ _
      ((λ j. c.fuse (sym (top_in a i off e) j) (sym (top_inside r strand x x strand' x y m same) j) (sym (off.above m under) j)) ∙ one.0)
      (S.and_yes _ _ (adm_in a i off e inside two.0) (sym (adm_inside c r strand x x strand' x y m same) ∙ two.1)))
  adm_in (OnRight l a) i off e inside is =
      let m = i + size l in
      let above_m : m ≤ place a m = place_above a m in
      let same : Inside i (size l) strand x x strand' x y = record {
        strands = λ g above below. off.strands_below g (omega arith);
        paths = λ g above below. refl;
        keys = λ g above below. off.below g (omega arith) (omega arith);
      } in
      let one = and_true (c.fuse (top l strand x i) (top (fill a s) strand x m) (x m)) _ is in
      let two = and_true (adm c strand l x i) (adm c strand (fill a s) x m) one.1 in
      S.and_yes _ _
      ((λ j. c.fuse (sym (top_inside l strand x x strand' x y i same) j) (sym (top_in a m off e) j) (sym (off.below m (omega (arith, size_above l)) above_m) j)) ∙ one.0)
      (S.and_yes _ _ (sym (adm_inside c l strand x x strand' x y i same) ∙ two.0) (adm_in a m off e inside two.1))

module _ {E : Type 0} (c : Symbols E) (strand : ℕ → ℕ) where
  adm_same : (t : Outline) (a b : Key) (i : ℕ) → Same i (size t) a b → adm c strand t a i ≡ adm c strand t b i
  adm_same t a b i h = adm_inside c t strand strand a strand strand b i (record { strands = λ g _ _. refl; paths = λ g _ _. refl; keys = h })

  -- the node itself, which was a left child
  adm_left : (A B C : Outline) (x y : Key) (j : ℕ) → ((g : ℕ) → j < g → g < j + ((size A + size B) + size C) → g ≢ j + size A → g ≢ (j + size A) + size B → x g ≡ y g)
      → c.fuse (top B strand y (j + size A)) (top C strand y ((j + size A) + size B)) (y ((j + size A) + size B)) ≡ true
      → c.fuse (top A strand y j) (y ((j + size A) + size B)) (y (j + size A)) ≡ true
      → adm c strand (on_left A B C) x j ≡ true → adm c strand (on_right A B C) y j ≡ true
  adm_left A B C x y j off lower upper is =
      let k = j + size A in
      let p = (j + size A) + size B in
      let assoc : j + (size A + size B) ≡ p = omega arith in
      let one = and_true (c.fuse (x k) (top C strand x (j + (size A + size B))) (x (j + (size A + size B)))) _ is in
      let two = and_true (adm c strand (Branch A B) x j) (adm c strand C x (j + (size A + size B))) one.1 in
      let three = and_true (c.fuse (top A strand x j) (top B strand x k) (x k)) _ two.0 in
      let four = and_true (adm c strand A x j) (adm c strand B x k) three.1 in
      let in_a : Same j (size A) x y = λ g a b. off g a (omega arith) (λ e. omega (arith, e)) (λ e. omega (arith, e)) in
      let in_b : Same k (size B) x y = λ g a b. off g (omega arith) (omega arith) (λ e. omega (arith, e)) (λ e. omega (arith, e)) in
      let in_c : Same p (size C) x y = λ g a b. off g (omega arith) (omega arith) (λ e. omega (arith, e)) (λ e. omega (arith, e)) in
      S.and_yes _ _ upper
      (S.and_yes _ _ (sym (adm_same A x y j in_a) ∙ four.0)
      (S.and_yes _ _ lower
      (S.and_yes _ _ (sym (adm_same B x y k in_b) ∙ four.1) (sym (adm_same C x y p in_c) ∙ (ap (adm c strand C x) (sym assoc) ∙ two.1)))))

  -- and which was a right child
  adm_right : (A B C : Outline) (x y : Key) (j : ℕ) → ((g : ℕ) → j < g → g < j + ((size A + size B) + size C) → g ≢ j + size A → g ≢ (j + size A) + size B → x g ≡ y g)
      → c.fuse (top A strand y j) (top B strand y (j + size A)) (y (j + size A)) ≡ true
      → c.fuse (y (j + size A)) (top C strand y ((j + size A) + size B)) (y ((j + size A) + size B)) ≡ true
      → adm c strand (on_right A B C) x j ≡ true → adm c strand (on_left A B C) y j ≡ true
  adm_right A B C x y j off lower upper is =
      let p = j + size A in
      let k = (j + size A) + size B in
      let assoc : k ≡ j + (size A + size B) = omega arith in
      let one = and_true (c.fuse (top A strand x j) (x k) (x p)) _ is in
      let two = and_true (adm c strand A x j) (adm c strand (Branch B C) x p) one.1 in
      let three = and_true (c.fuse (top B strand x p) (top C strand x k) (x k)) _ two.1 in
      let four = and_true (adm c strand B x p) (adm c strand C x k) three.1 in
      let in_a : Same j (size A) x y = λ g a b. off g a (omega arith) (λ e. omega (arith, e)) (λ e. omega (arith, e)) in
      let in_b : Same p (size B) x y = λ g a b. off g (omega arith) (omega arith) (λ e. omega (arith, e)) (λ e. omega (arith, e)) in
      let in_c : Same k (size C) x y = λ g a b. off g (omega arith) (omega arith) (λ e. omega (arith, e)) (λ e. omega (arith, e)) in
      subst (λ (n : ℕ). (c.fuse (y p) (top C strand y n) (y n) && (adm c strand (Branch A B) y j && adm c strand C y n)) ≡ true) assoc
      (S.and_yes _ _ upper
      (S.and_yes _ _
      (S.and_yes _ _ lower (S.and_yes _ _ (sym (adm_same A x y j in_a) ∙ two.0) (sym (adm_same B x y p in_b) ∙ four.0)))
      (sym (adm_same C x y k in_c) ∙ four.1)))

-- the labels of a key by gap
abbrev gaps : List ℕ → Key
gaps key g = slice_index key (g - 1)

off_rotation : (Y : List ℕ) (k p t g : ℕ) → 0 < k → 0 < p → 0 < g → g ≢ k → g ≢ p → gaps (set (set Y (p - 1) (get_or Y (k - 1) 0)) (k - 1) t) g ≡ gaps Y g
off_rotation Y k p t g k_low p_low low off_k off_p =
    get_or-set_other (set Y (p - 1) (get_or Y (k - 1) 0)) (k - 1) (g - 1) t 0 (λ e. off_k (omega arith))
    ∙ get_or-set_other Y (p - 1) (g - 1) (get_or Y (k - 1) 0) 0 (λ e. off_p (omega arith))

at_parent : (Y : List ℕ) (k p t : ℕ) → 0 < k → 0 < p → p ≤ length Y → k ≢ p → gaps (set (set Y (p - 1) (get_or Y (k - 1) 0)) (k - 1) t) p ≡ gaps Y k
at_parent Y k p t k_low low high apart =
    get_or-set_other (set Y (p - 1) (get_or Y (k - 1) 0)) (k - 1) (p - 1) t 0 (λ e. apart (omega arith))
    ∙ get_or-set_same Y (p - 1) (get_or Y (k - 1) 0) 0 (omega arith)

label_top : (strands Y : List ℕ) (A : Outline) (i : ℕ) → label_at strands Y (spot_of A i) ≡ top A (slice_index strands) (gaps Y) i
label_top strands Y Tip i = refl
label_top strands Y (Branch l r) i = refl

record Four (a b c d : Bool) : Type 0 where
  pub one : a ≡ true
  pub two : b ≡ true
  pub three : c ≡ true
  pub four : d ≡ true

four : (a b c d : Bool) → (a && (b && (c && d))) ≡ true → Four a b c d
four a b c d h =
    let x = and_true a (b && (c && d)) h in
    let y = and_true b (c && d) x.1 in
    let z = and_true c d y.1 in
    record { one = x.0; two = y.0; three = z.0; four = z.1 }

module _ {E : Type 0} (c : Symbols E) (strands Y : List ℕ) (t : ℕ) where
  abbrev strand : ℕ → ℕ
  strand = slice_index strands

  -- the new key is admissible where the old one and the factor are
  left_after : (a : Around) (A B C : Outline) → let k = place a 0 + size A in let p = (place a 0 + size A) + size B in
      p ≤ length Y → let rotation = rotation_at A B C k p (place a 0) k p in
      adm c strand (fill a (on_left A B C)) (gaps (before rotation Y t)) 0 ≡ true → has_factor c strands rotation Y t ≡ true → adm c strand (fill a (on_right A B C)) (gaps Y) 0 ≡ true
  left_after a A B C high is has =
      let j = place a 0 in
      let k = place a 0 + size A in
      let p = (place a 0 + size A) + size B in
      let x = gaps (before (rotation_at A B C k p j k p) Y t) in
      let y = gaps Y in
      let k_low : 0 < place a 0 + size A = omega (arith, size_above A) in
      let p_low : 0 < (place a 0 + size A) + size B = omega (arith, size_above A) in
      let l = label_at strands Y (spot_of A j) in
      let m = label_at strands Y (spot_of B k) in
      let n = label_at strands Y (spot_of C p) in
      let parts : Four (c.fuse l m t) (c.fuse t n (y k)) (c.fuse m n (y p)) (c.fuse l (y p) (y k)) =
      four (c.fuse l m t) (c.fuse t n (y k)) (c.fuse m n (y p)) (c.fuse l (y p) (y k)) (sym (S.if_yes (nat_lt k p) _ _ (less k p (omega (arith, size_above B)))) ∙ has) in
      adm_in c strand strand (on_left A B C) (on_right A B C) x y (omega arith) a 0
      (record {
        strands_below = λ g low. refl;
        strands_above = λ g high. refl;
        below = λ g low below. off_rotation Y k p t g k_low p_low low (λ e. omega (arith, e, size_above A)) (λ e. omega (arith, e, size_above A));
        above = λ g above. off_rotation Y k p t g k_low p_low (omega (arith, size_above A)) (λ e. omega (arith, e, size_above B, size_above C)) (λ e. omega (arith, e, size_above C));
      })
      (let assoc : j + (size A + size B) ≡ p = omega arith in ap x assoc ∙ at_parent Y k p t k_low p_low high (λ e. omega (arith, e, size_above B)))
      (adm_left c strand A B C x y j (λ g low below off_k off_p. off_rotation Y k p t g k_low p_low (omega arith) off_k off_p)
      ((λ i. c.fuse (sym (label_top strands Y B k) i) (sym (label_top strands Y C p) i) (y p)) ∙ parts.three)
      ((λ i. c.fuse (sym (label_top strands Y A j) i) (y p) (y k)) ∙ parts.four)) is

  right_after : (a : Around) (A B C : Outline) → let p = place a 0 + size A in let k = (place a 0 + size A) + size B in
      k ≤ length Y → let rotation = rotation_at A B C k p (place a 0) p k in
      adm c strand (fill a (on_right A B C)) (gaps (before rotation Y t)) 0 ≡ true → has_factor c strands rotation Y t ≡ true → adm c strand (fill a (on_left A B C)) (gaps Y) 0 ≡ true
  right_after a A B C high is has =
      let j = place a 0 in
      let p = place a 0 + size A in
      let k = (place a 0 + size A) + size B in
      let x = gaps (before (rotation_at A B C k p j p k) Y t) in
      let y = gaps Y in
      let p_low : 0 < place a 0 + size A = omega (arith, size_above A) in
      let k_low : 0 < (place a 0 + size A) + size B = omega (arith, size_above A) in
      let l = label_at strands Y (spot_of A j) in
      let m = label_at strands Y (spot_of B p) in
      let n = label_at strands Y (spot_of C k) in
      let parts : Four (c.fuse l m (y p)) (c.fuse (y p) n (y k)) (c.fuse m n t) (c.fuse l t (y k)) =
      four (c.fuse l m (y p)) (c.fuse (y p) n (y k)) (c.fuse m n t) (c.fuse l t (y k)) (sym (S.if_no (nat_lt k p) _ _ (not_less k p (omega (arith, size_above B)))) ∙ has) in
      adm_in c strand strand (on_right A B C) (on_left A B C) x y (omega arith) a 0
      (record {
        strands_below = λ g low. refl;
        strands_above = λ g high. refl;
        below = λ g low below. off_rotation Y k p t g k_low p_low low (λ e. omega (arith, e, size_above A)) (λ e. omega (arith, e, size_above A));
        above = λ g above. off_rotation Y k p t g k_low p_low (omega (arith, size_above A)) (λ e. omega (arith, e, size_above C)) (λ e. omega (arith, e, size_above B, size_above C));
      })
      (let assoc : (place a 0 + size A) + size B ≡ place a 0 + (size A + size B) = omega arith in at_parent Y k p t k_low p_low (omega arith) (λ e. omega (arith, e, size_above B)) ∙ ap y assoc)
      (adm_right c strand A B C x y j (λ g low below off_p off_k. off_rotation Y k p t g k_low p_low (omega arith) off_k off_p)
      ((λ i. c.fuse (sym (label_top strands Y A j) i) (sym (label_top strands Y B p) i) (y p)) ∙ parts.one)
      ((λ i. c.fuse (y p) (sym (label_top strands Y C k) i) (y k)) ∙ parts.two)) is

-- the new key of a rotation is admissible where the old one and the factor are
pub after_rotation : {E : Type 0} (c : Symbols E) (strands Y : List ℕ) (t : ℕ) (s : Outline) (k : ℕ) (rotation : Rotation) → 0 < k → k < size s → size s ≤ length Y + 1 → rotation_of s k ≡ Some rotation
    → is_admissible c.fuse (with_labels s strands (before rotation Y t)) ≡ true → has_factor c strands rotation Y t ≡ true → is_admissible c.fuse (with_labels (raise_at k s 0) strands Y) ≡ true
after_rotation c strands Y t s k rotation low high long there is has =
    let valid = rotation_valid s k rotation low high there in
    elim (raised_is k s 0 low (omega arith) valid.1) [
      | inl h ↦
          let same = rotation_by s _ k _ rotation _ h.was h.gap there (left_rotation h.around h.first h.second h.third) in
          let fits : place h.around 0 + size (on_left h.first h.second h.third) ≤ 0 + size (fill h.around (on_left h.first h.second h.third)) = place_below h.around (on_left h.first h.second h.third) 0 in
          let whole : size s ≡ size (fill h.around (on_left h.first h.second h.third)) = ap size h.was in
          adm_is c (slice_index strands) (raise_at k s 0) (gaps Y) 0
          ∙ (ap (λ x. adm c (slice_index strands) x (gaps Y) 0) h.is
          ∙ left_after c strands Y t h.around h.first h.second h.third (omega (arith, size_above h.third))
          ((λ j. adm c (slice_index strands) (sym h.was j) (gaps (before (same j) Y t)) 0) ∙ (sym (adm_is c (slice_index strands) s (gaps (before rotation Y t)) 0) ∙ is))
          (ap (λ x. has_factor c strands x Y t) same ∙ has))
      | inr h ↦
          let same = rotation_by s _ k _ rotation _ h.was h.gap there (right_rotation h.around h.first h.second h.third) in
          let fits : place h.around 0 + size (on_right h.first h.second h.third) ≤ 0 + size (fill h.around (on_right h.first h.second h.third)) = place_below h.around (on_right h.first h.second h.third) 0 in
          let whole : size s ≡ size (fill h.around (on_right h.first h.second h.third)) = ap size h.was in
          adm_is c (slice_index strands) (raise_at k s 0) (gaps Y) 0
          ∙ (ap (λ x. adm c (slice_index strands) x (gaps Y) 0) h.is
          ∙ right_after c strands Y t h.around h.first h.second h.third (omega (arith, size_above h.third))
          ((λ j. adm c (slice_index strands) (sym h.was j) (gaps (before (same j) Y t)) 0) ∙ (sym (adm_is c (slice_index strands) s (gaps (before rotation Y t)) 0) ∙ is))
          (ap (λ x. has_factor c strands x Y t) same ∙ has))
    ]

-- A new amplitude comes from an old one, by an admissible factor.
module _ {E : Type 0} (c : Symbols E) (laws : RingLaws c.ring c.held) (strands : List ℕ) (rotation : Rotation) (off : (key : List ℕ) (t : ℕ) → has_factor c strands rotation key t ≡ false → factor c strands rotation key t ≡ c.ring.zero)
    (old : List (List ℕ × E)) where
  pub record Comes (Y : List ℕ) : Type 0 where
    pub label : ℕ
    pub value : E
    pub there : amplitude_at old (before rotation Y label) ≡ Some value
    pub has : has_factor c strands rotation Y label ≡ true

  from_by : (Y : List ℕ) (t : ℕ) (o : Option E) (b : Bool) → amplitude_at old (before rotation Y t) ≡ o → has_factor c strands rotation Y t ≡ b → Comes Y ⊎ (raise_term c strands rotation (amplitude_of c.ring old) Y t ≡ c.ring.zero)
  from_by Y t None b e h = inr (ap (λ x. c.ring.product (factor c strands rotation Y t) (unwrap_or x c.ring.zero)) e ∙ laws.product-zero _)
  from_by Y t (Some v) true e h = inl (record { label = t; value = v; there = e; has = h })
  from_by Y t (Some v) false e h = inr (ap (λ x. c.ring.product x (amplitude_of c.ring old (before rotation Y t))) (off Y t h) ∙ S.zero-product laws _)

  search_for : (Y : List ℕ) (n : ℕ) → Comes Y ⊎ (total c.ring n (raise_term c strands rotation (amplitude_of c.ring old) Y) ≡ c.ring.zero)
  search_for Y zero = inr refl
  search_for Y (suc n) =
      elim (search_for Y n) [
        | inl found ↦ inl found
        | inr none ↦ elim (from_by Y n (amplitude_at old (before rotation Y n)) (has_factor c strands rotation Y n) refl refl) [
          | inl found ↦ inl found
          | inr nothing ↦ inr ((λ j. c.ring.sum (none j) (nothing j)) ∙ laws.sum-zero c.ring.zero laws.zero_is)
        ]
      ]

  pub comes_from : (new : List (List ℕ × E)) → AreAmplitudes c.held new → amplitude_of c.ring new ≡ raised c strands rotation (amplitude_of c.ring old) → (Y : List ℕ) (w : E) → amplitude_at new Y ≡ Some w → Comes Y
  comes_from new order equal Y w e =
      elim (search_for Y c.count) [
        | inl found ↦ found
        | inr none ↦
            let here : w ≡ c.ring.zero = sym (ap (λ o. unwrap_or o c.ring.zero) e) ∙ (ap (λ (f : List ℕ → E). f Y) equal ∙ none) in
            let is_zero : c.held.is_zero w ≡ true = ap c.held.is_zero here ∙ (laws.is_zero_is c.ring.zero laws.zero_is).1 refl in
            let nonzero : c.held.is_zero w ≡ false = nonzero_in c.held new Y w order.nonzero e in
            let both : true ≡ false = sym is_zero ∙ nonzero in
            absurd (cc)
      ]
