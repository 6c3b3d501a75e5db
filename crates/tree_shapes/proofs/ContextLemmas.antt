-- The sizes of outlines with a hole, and where it stands.
use Rattle.std.proofs.Common.{◌≡◌, ℕ, ◌+◌, ◌<◌, ◌≤◌, ap, arith}
use Rattle.tree_shapes.specs.Outlines.{Outline, Tip, Branch, size}
use Rattle.tree_shapes.specs.Contexts.{Around, Hole, OnLeft, OnRight, fill, place}

pub size_above : (t : Outline) → 0 < size t
size_above Tip = omega arith
size_above (Branch l r) = omega (arith, size_above l, size_above r)

pub fill_size : (a : Around) (t t' : Outline) → size t ≡ size t' → size (fill a t) ≡ size (fill a t')
fill_size Hole t t' e = e
fill_size (OnLeft a r) t t' e = ap (λ n. n + size r) (fill_size a t t' e)
fill_size (OnRight l a) t t' e = ap (λ n. size l + n) (fill_size a t t' e)

pub place_above : (a : Around) (i : ℕ) → i ≤ place a i
place_above Hole i = omega arith
place_above (OnLeft a r) i = place_above a i
place_above (OnRight l a) i = omega (arith, place_above a (i + size l))

pub place_below : (a : Around) (t : Outline) (i : ℕ) → place a i + size t ≤ i + size (fill a t)
place_below Hole t i = omega arith
place_below (OnLeft a r) t i = omega (arith, place_below a t i)
place_below (OnRight l a) t i = omega (arith, place_below a t (i + size l))
