-- A state that has an amplitude has one after a raise, since a raise can be undone.
use Rattle.std.proofs.Common.{◌≡◌, ℕ, ◌+◌, ◌-◌, ◌≤◌, true, List, [], Some, unwrap_or, length, refl, ap, sym, ◌∙◌, subst, arith, slice_index, inl, inr, ◌⊎◌}
use Rattle.std.specs.Prelude.{IsTrue, ◌&&◌}
use Rattle.ring_laws.specs.Ring.{RingLaws}
use Rattle.ring_laws.proofs.SumLemmas as S
use Rattle.ring_laws.proofs.StatedLemmas.{some_inj}
use Rattle.symbol_table.specs.AllLabels.{IsProper, HasEquations, goes_left, goes_right}
use Rattle.symbol_table.specs.Symbols.{Symbols}
use Rattle.tree_shapes.specs.Contexts.{Around, Hole, OnLeft, OnRight, fill, on_left, on_right, place, IsRaisedLeft, IsRaisedRight}
use Rattle.tree_shapes.specs.Labelled.{is_admissible}
use Rattle.tree_shapes.specs.Outlines.{Outline, Branch, size, with_labels}
use Rattle.tree_shapes.proofs.ContextLemmas.{size_above, place_below}
use Rattle.tree_laws.specs.Entries.{labels_of, listed, values, value_at}
use Rattle.tree_laws.specs.Trees.{top}
use Rattle.tree_laws.proofs.EntryLemmas.{listed_back}
use Rattle.tree_laws.proofs.Inverse.{undone_left, undone_right}
use Rattle.tree_laws.proofs.Keys.{Key}
use Rattle.amp_store.specs.Amplitudes.{amplitude_at, amplitude_of}
use Rattle.recouple.specs.Raises.{AreOver, raised}
use Rattle.recouple.specs.Rotations.{rotation_of}
use Rattle.recouple.specs.declared.rotation.Rotation.{Rotation}
use Rattle.recouple.proofs.AdmissibleLemmas.{adm, adm_is, and_true}
use Rattle.recouple.proofs.CombLemmas.{value_is, left_values, right_values}
use Rattle.recouple.proofs.RotationLemmas.{rotation_at, left_rotation, right_rotation}
use Rattle.recouple.proofs.ValueLemmas.{amplitude_member}

module _ {E : Type 0} (c : Symbols E) (strand : ℕ → ℕ) (x : Key) where
  -- what fills the hole of an admissible tree is admissible
  pub adm_part : (a : Around) (s : Outline) (i : ℕ) → adm c strand (fill a s) x i ≡ true → adm c strand s x (place a i) ≡ true
  adm_part Hole s i is = is
  adm_part (OnLeft a r) s i is =
      let one = and_true (c.fuse (top (fill a s) strand x i) (top r strand x (i + size (fill a s))) (x (i + size (fill a s)))) _ is in
      adm_part a s i (and_true (adm c strand (fill a s) x i) (adm c strand r x (i + size (fill a s))) one.1).0
  adm_part (OnRight l a) s i is =
      let one = and_true (c.fuse (top l strand x i) (top (fill a s) strand x (i + size l)) (x (i + size l))) _ is in
      adm_part a s (i + size l) (and_true (adm c strand l x i) (adm c strand (fill a s) x (i + size l)) one.1).1

  -- its two vertices
  vertices_left : (A B C : Outline) (i : ℕ) → adm c strand (on_left A B C) x i ≡ true
      → goes_left c (top A strand x i) (top B strand x (i + size A)) (top C strand x ((i + size A) + size B)) (x ((i + size A) + size B)) (x (i + size A)) ≡ true
  vertices_left A B C i is =
      let assoc : i + (size A + size B) ≡ (i + size A) + size B = omega arith in
      let one = and_true (c.fuse (x (i + size A)) (top C strand x (i + (size A + size B))) (x (i + (size A + size B)))) _ is in
      let two = and_true (adm c strand (Branch A B) x i) (adm c strand C x (i + (size A + size B))) one.1 in
      let three = and_true (c.fuse (top A strand x i) (top B strand x (i + size A)) (x (i + size A))) (adm c strand A x i && adm c strand B x (i + size A)) two.0 in
      S.and_yes _ _ three.0 ((λ j. c.fuse (x (i + size A)) (top C strand x (sym assoc j)) (x (sym assoc j))) ∙ one.0)

  vertices_right : (A B C : Outline) (i : ℕ) → adm c strand (on_right A B C) x i ≡ true
      → goes_right c (top A strand x i) (top B strand x (i + size A)) (top C strand x ((i + size A) + size B)) (x (i + size A)) (x ((i + size A) + size B)) ≡ true
  vertices_right A B C i is =
      let one = and_true (c.fuse (top A strand x i) (x ((i + size A) + size B)) (x (i + size A))) _ is in
      let two = and_true (adm c strand A x i) (adm c strand (Branch B C) x (i + size A)) one.1 in
      let three = and_true (c.fuse (top B strand x (i + size A)) (top C strand x ((i + size A) + size B)) (x ((i + size A) + size B))) (adm c strand B x (i + size A) && adm c strand C x ((i + size A) + size B)) two.1 in
      S.and_yes _ _ three.0 one.0

module _ {E : Type 0} (c : Symbols E) (laws : RingLaws c.ring c.held) (proper : IsProper c) (equations : HasEquations c) (strands : List ℕ) (k : ℕ) (t : Outline) (rotation : Rotation) (old : List (List ℕ × E))
    (leaves : size t ≡ length strands) (over : AreOver c.ring c.count (length strands) old) (there : rotation_of t k ≡ Some rotation)
    (is : amplitude_of c.ring [] ≡ raised c strands rotation (amplitude_of c.ring old))
    (key : List ℕ) (v : E) (has : amplitude_at old key ≡ Some v) (admissible : is_admissible c.fuse (with_labels t strands key) ≡ true) where
  abbrev strand : ℕ → ℕ
  strand = slice_index strands

  abbrev x : Key
  x = labels_of key

  -- the old amplitudes by the labels at n gaps
  value_here : (n : ℕ) → length key ≡ n → values c.ring n old x ≡ v
  value_here n long = ap (value_at c.ring old) (listed_back n key long) ∙ (value_is c.ring old key ∙ ap (λ o. unwrap_or o c.ring.zero) has)

  members : (n : ℕ) (z : Key) → IsTrue (c.ring.member (values c.ring n old z))
  members n z = subst (λ y. IsTrue (c.ring.member y)) (sym (value_is c.ring old (listed 1 n z))) (amplitude_member laws c.count (length strands) old over (listed 1 n z))

  gone_left : (new_shape : Outline) → IsRaisedLeft k 0 t new_shape → v ≡ c.ring.zero
  gone_left new_shape h =
      let i = place h.around 0 in
      let A = h.first in
      let B = h.second in
      let C = h.third in
      let T = fill h.around (on_left A B C) in
      let n = size T - 1 in
      let fits : i + ((size A + size B) + size C) ≤ 0 + size T = place_below h.around (on_left A B C) 0 in
      let whole : size T ≡ length strands = ap size (sym h.was) ∙ leaves in
      let long : length key ≡ size T - 1 = omega (arith, whole, (over.keys key v has).long) in
      let rotates : rotation_at A B C (i + size A) ((i + size A) + size B) i (i + size A) ((i + size A) + size B) ≡ rotation =
      some_inj _ _ (sym (left_rotation h.around A B C) ∙ ((λ j. rotation_of (sym h.was j) (sym h.gap j)) ∙ there)) in
      let nothing = λ (z : Key).
      sym (left_values c strands h.around A B C old [] (size T - 1) (size T - 1) z refl (omega (arith, fits, size_above T))
      (is ∙ ap (λ u. raised c strands u (amplitude_of c.ring old)) (sym rotates))) in
      let on = vertices_left c strand x A B C i (adm_part c strand x h.around (on_left A B C) 0 (sym (adm_is c strand T x 0) ∙ (ap (λ s. is_admissible c.fuse (with_labels s strands key)) (sym h.was) ∙ admissible))) in
      sym (value_here (size T - 1) long)
      ∙ (sym (undone_left c laws proper equations strand A B C i (values c.ring (size T - 1) old) (members (size T - 1)) x on)
      ∙ S.total_none laws c.count _ (λ f _. ap (c.ring.product _) (nothing _) ∙ laws.product-zero _))

  gone_right : (new_shape : Outline) → IsRaisedRight k 0 t new_shape → v ≡ c.ring.zero
  gone_right new_shape h =
      let i = place h.around 0 in
      let A = h.first in
      let B = h.second in
      let C = h.third in
      let T = fill h.around (on_right A B C) in
      let fits : i + (size A + (size B + size C)) ≤ 0 + size T = place_below h.around (on_right A B C) 0 in
      let whole : size T ≡ length strands = ap size (sym h.was) ∙ leaves in
      let long : length key ≡ size T - 1 = omega (arith, whole, (over.keys key v has).long) in
      let rotates : rotation_at A B C ((i + size A) + size B) (i + size A) i (i + size A) ((i + size A) + size B) ≡ rotation =
      some_inj _ _ (sym (right_rotation h.around A B C) ∙ ((λ j. rotation_of (sym h.was j) (sym h.gap j)) ∙ there)) in
      let nothing = λ (z : Key).
      sym (right_values c strands h.around A B C old [] (size T - 1) (size T - 1) z refl (omega (arith, fits, size_above T))
      (is ∙ ap (λ u. raised c strands u (amplitude_of c.ring old)) (sym rotates))) in
      let on = vertices_right c strand x A B C i (adm_part c strand x h.around (on_right A B C) 0 (sym (adm_is c strand T x 0) ∙ (ap (λ s. is_admissible c.fuse (with_labels s strands key)) (sym h.was) ∙ admissible))) in
      sym (value_here (size T - 1) long)
      ∙ (sym (undone_right c laws proper equations strand A B C i (values c.ring (size T - 1) old) (members (size T - 1)) x on)
      ∙ S.total_none laws c.count _ (λ e _. ap (c.ring.product _) (nothing _) ∙ laws.product-zero _))

  pub gone : (new_shape : Outline) → IsRaisedLeft k 0 t new_shape ⊎ IsRaisedRight k 0 t new_shape → v ≡ c.ring.zero
  gone new_shape (inl h) = gone_left new_shape h
  gone new_shape (inr h) = gone_right new_shape h
