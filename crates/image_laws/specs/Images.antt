-- The image of a category under a map of its ring.
use Rattle.std.specs.Prelude.{◌≡◌, IsTrue}
use Rattle.ring_laws.specs.Ring.{Ring}
use Rattle.symbol_table.specs.Symbols.{Symbols}
use Rattle.cyclo_core.specs.ImageLaws.{IsStarMap}
use Rattle.image_laws.specs.Category.{AreOfCategory}

-- the same rules, and the image of every symbol
abbrev pub image_of : {E : Type 0} → (E → E) → Symbols E → Symbols E
image_of F c = record c {
  f = λ a b m d e f. F (c.f a b m d e f);
  h = λ a b m d f e. F (c.h a b m d f e);
  r = λ a b e. F (c.r a b e);
  s = λ a b e. F (c.s a b e);
  w = λ a b e. F (c.w a b e);
  v = λ a b e. F (c.v a b e);
  twist = λ a. F (c.twist a);
  loop_value = λ a. F (c.loop_value a);
}

-- a map is undone by another
abbrev pub IsUndoneBy : {E : Type 0} → Ring E → (F G : E → E) → Type 0
IsUndoneBy {E} ring F G = (x : E) → IsTrue (ring.member x) → G (F x) ≡ x

-- The images of a category's symbols are those of a category, under each map of its ring that another one undoes; and that
-- one makes them the old ones again.
pub record HasImages {E : Type 0} (c : Symbols E) : Type 0 where
  pub category : (F G : E → E) → IsStarMap c.ring F → IsUndoneBy c.ring F G → AreOfCategory (image_of F c)
  pub undone : (F G : E → E) → IsUndoneBy c.ring F G → image_of G (image_of F c) ≡ c
