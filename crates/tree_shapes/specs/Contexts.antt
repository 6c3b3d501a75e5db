-- Outlines with a hole, and a rotation in one.
use Rattle.std.specs.Prelude.{◌≡◌, ℕ, ◌+◌}
use Rattle.tree_shapes.specs.Outlines.{Outline, Branch, size}

-- A tree with a hole.
pub data Around : Type 0 where
  Hole : Around
  OnLeft : (around : Around) (right : Outline) → Around
  OnRight : (left : Outline) (around : Around) → Around

abbrev pub fill : Around → Outline → Outline
fill Hole t = t
fill (OnLeft a r) t = Branch (fill a t) r
fill (OnRight l a) t = Branch l (fill a t)

-- where the first strand of what fills the hole stands, if that of the whole stands at i
abbrev pub place : Around → ℕ → ℕ
place Hole i = i
place (OnLeft a r) i = place a i
place (OnRight l a) i = place a (i + size l)

-- A node k with the children A and B, whose parent has C on its right, and the same strands with k on the right of its parent.
abbrev pub on_left : Outline → Outline → Outline → Outline
on_left A B C = Branch (Branch A B) C

abbrev pub on_right : Outline → Outline → Outline → Outline
on_right A B C = Branch A (Branch B C)

-- the node was the left child of its parent, and the trees under both are A, B and C
pub record IsRaisedLeft (k i : ℕ) (old new : Outline) : Type 0 where
  pub around : Around
  pub first : Outline
  pub second : Outline
  pub third : Outline
  pub was : old ≡ fill around (on_left first second third)
  pub is : new ≡ fill around (on_right first second third)
  pub gap : k ≡ place around i + size first

-- it was the right child
pub record IsRaisedRight (k i : ℕ) (old new : Outline) : Type 0 where
  pub around : Around
  pub first : Outline
  pub second : Outline
  pub third : Outline
  pub was : old ≡ fill around (on_right first second third)
  pub is : new ≡ fill around (on_left first second third)
  pub gap : k ≡ (place around i + size first) + size second
