-- The stated evaluation of each symbol of a new category.
use Rattle.std.specs.Prelude.{ℕ, List, Option, Some, None, map, slice_index, if◌then◌else◌}
use Rattle.ring_laws.specs.Stated.{product_at, product3_at}
use Rattle.cyclo_core.specs.Ratio.{Ratio}
use Rattle.cyclo_core.specs.Image.{image_fits, image_of as number_image}
use Rattle.fusion_rules.specs.declared.label.TheConstants.{UNIT}
use Rattle.symbol_table.specs.Symbols.{Symbols}
use Rattle.image_laws.specs.Mirrors.{dual_in, mirror_of}
use Rattle.image_laws.specs.Products.{first_of, second_of}
use Rattle.category_images.specs.Places.{value_at}
use Rattle.category_images.specs.declared.place.Symbol.{Symbol}
use Rattle.category_images.specs.declared.place.Symbol.TheVariants.{Twist}

-- the image of a number of this root where z^k is put for z
abbrev pub image_at : ℕ → ℕ → Ratio → Option Ratio
image_at root k x = if image_fits root k x then Some (number_image root k x) else None

-- each symbol's image
abbrev pub image_item : ℕ → ℕ → Symbols Ratio → Symbol → List ℕ → Option Ratio
image_item root k c symbol index = image_at root k (value_at c symbol index)

-- (R(a,a*,1) R(a*,a,1)) theta_(a*)
abbrev pub mirrored_at : {E : Type 0} → Symbols E → ℕ → Option E
mirrored_at c a =
    let dual = dual_in c a in
    product3_at c.ring (c.r a dual UNIT) (c.r dual a UNIT) (c.twist dual)

-- twists alone are evaluated
abbrev pub mirror_item : {E : Type 0} → Symbols E → Symbol → List ℕ → Option E
mirror_item c Twist index = mirrored_at c (slice_index index 0)
mirror_item c symbol index = Some (value_at (mirror_of c) symbol index)

-- the product of the two symbols
abbrev pub product_item : {E : Type 0} → (c d : Symbols E) → Symbol → List ℕ → Option E
product_item c d symbol index =
    product_at c.ring (value_at c symbol (map (first_of c d) index)) (value_at d symbol (map (second_of c d) index))
