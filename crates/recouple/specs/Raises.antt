-- The amplitudes after a node was raised over its parent, and which products and sums arise.
use Rattle.std.specs.Prelude.{◌≡◌, ℕ, ◌-◌, Bool, List, Option, Some, IsTrue, slice_index, if◌then◌else◌}
use Rattle.ring_laws.specs.Ring.{Ring}
use Rattle.ring_laws.specs.Sums.{total}
use Rattle.ring_laws.specs.Stated.{add_product_at, steps}
use Rattle.symbol_table.specs.Symbols.{Symbols, f_admissible}
use Rattle.amp_store.specs.Amplitudes.{amplitude_at}
use Rattle.recouple.specs.Rotations.{label_at, from_left, before, IsKey}
use Rattle.recouple.specs.declared.rotation.Rotation.{Rotation}

module _ {E : Type 0} (c : Symbols E) (strands : List ℕ) (rotation : Rotation) where
  -- F(a,b,c,d;t,u), or H(a,b,c,d;t,u) where the node was a right child: from the node's old label t to the parent's new
  -- label u, where a, b, c are the labels of the three subtrees, and the node has the parent's old label d
  abbrev pub factor : List ℕ → ℕ → E
  factor key t =
      let a = label_at strands key rotation.first in
      let b = label_at strands key rotation.second in
      let m = label_at strands key rotation.third in
      let d = slice_index key (rotation.node - 1) in
      let u = slice_index key (rotation.parent - 1) in
      if from_left rotation then c.f a b m d t u else c.h a b m d t u

  -- whether it is admissible
  abbrev pub has_factor : List ℕ → ℕ → Bool
  has_factor key t =
      let a = label_at strands key rotation.first in
      let b = label_at strands key rotation.second in
      let m = label_at strands key rotation.third in
      let d = slice_index key (rotation.node - 1) in
      let u = slice_index key (rotation.parent - 1) in
      if from_left rotation then f_admissible c.fuse a b m d t u else f_admissible c.fuse a b m d u t

  abbrev pub raise_term : (List ℕ → E) → List ℕ → ℕ → E
  raise_term v key t = c.ring.product (factor key t) (v (before rotation key t))

  -- The amplitude of a new key: the sum over the node's old label of the factor times the old amplitude.
  abbrev pub raised : (List ℕ → E) → List ℕ → E
  raised v key = total c.ring c.count (raise_term v key)

  -- the term of the label t, which arises where the old amplitude isn't zero and the factor is admissible
  abbrev pub raise_step : (List ℕ → E) → List ℕ → ℕ → E → Option E
  raise_step v key t sum =
      let old = v (before rotation key t) in
      if c.held.is_zero old
      then Some sum
      else (if has_factor key t then add_product_at c.ring sum (factor key t) old else Some sum)

  -- the amplitude of a new key, by prefix sums over the labels in their order, begun at zero
  abbrev pub raised_at : (List ℕ → E) → List ℕ → Option E
  raised_at v key = steps (raise_step v key) 0 c.count c.ring.zero

-- every amplitude is of the ring, and every key has a label below the count for each gap of n strands
pub record AreOver {E : Type 0} (r : Ring E) (count n : ℕ) (es : List (List ℕ × E)) : Type 0 where
  pub members : (key : List ℕ) (v : E) → amplitude_at es key ≡ Some v → IsTrue (r.member v)
  pub keys : (key : List ℕ) (v : E) → amplitude_at es key ≡ Some v → IsKey count n key
