-- What the three calls answer.
use Rattle.std.specs.Prelude.{◌≡◌, ◌≢◌, ◌⊎◌, ℕ, ◌*◌, ◌<◌, ◌≤◌, true, false, Option, Some, None, Result, Ok, Err}
use Rattle.cyclo_core.specs.Ratio.{Ratio, held, ring_at}
use Rattle.cyclo_core.specs.Image.{is_exponent, image_of as number_image}
use Rattle.fusion_rules.specs.declared.label.TheConstants.{LABEL_LIMIT}
use Rattle.symbol_table.specs.Symbols.{Symbols}
use Rattle.symbol_table.specs.Draft.{DraftValue}
use Rattle.symbol_table.specs.Category.{draft_symbols}
use Rattle.image_laws.specs.Images.{image_of}
use Rattle.image_laws.specs.Mirrors.{mirror_of}
use Rattle.image_laws.specs.Products.{product_of}
use Rattle.category_images.specs.Places.{first_place}
use Rattle.category_images.specs.Items.{image_item, mirror_item, product_item}
use Rattle.category_images.specs.declared.place.Place.{Place}
use Rattle.category_images.specs.declared.fault.ImageFault.{ImageFault}
use Rattle.category_images.specs.declared.fault.ImageFault.TheVariants as image
use Rattle.category_images.specs.declared.fault.ProductFault.{ProductFault}
use Rattle.category_images.specs.declared.fault.ProductFault.TheVariants as product

-- the symbols of a category over the numbers of its root
abbrev pub symbols_of_root : DraftValue ℕ Ratio → Symbols Ratio
symbols_of_root draft = draft_symbols (ring_at draft.ring) held draft

-- A category over these numbers with these symbols was made, and every item fits.
pub record IsMade (number : ℕ) (wanted : Symbols Ratio) (missing : Option Place) (made : DraftValue ℕ Ratio) : Type 0 where
  pub root : made.ring ≡ number
  pub symbols : symbols_of_root made ≡ wanted
  pub fits : missing ≡ None

-- the first item of the Galois image that doesn't fit
abbrev pub image_missing : DraftValue ℕ Ratio → ℕ → Option Place
image_missing from k = first_place (symbols_of_root from) (image_item from.ring k (symbols_of_root from))

-- What `galois` answers: that k is no exponent, or the image, or the first item that doesn't fit. Want of memory is free.
abbrev pub AnswersImage : DraftValue ℕ Ratio → ℕ → Result (DraftValue ℕ Ratio) ImageFault → Type 0
AnswersImage from k (Ok made) =
    (is_exponent from.ring k ≡ true) × IsMade from.ring (image_of (number_image from.ring k) (symbols_of_root from)) (image_missing from k) made
AnswersImage from k (Err image.Exponent) = is_exponent from.ring k ≡ false
AnswersImage from k (Err (image.Overflow place)) = (is_exponent from.ring k ≡ true) × (image_missing from k ≡ Some place)
AnswersImage from k (Err image.Memory) = is_exponent from.ring k ≡ true

-- the first twist of the mirror that doesn't fit
abbrev pub mirror_missing : DraftValue ℕ Ratio → Option Place
mirror_missing from = first_place (symbols_of_root from) (mirror_item (symbols_of_root from))

-- What `mirror` answers: the mirror, or the first item that doesn't fit. Want of memory is free.
abbrev pub AnswersMirror : DraftValue ℕ Ratio → Result (DraftValue ℕ Ratio) ImageFault → Type 0
AnswersMirror from (Ok made) = IsMade from.ring (mirror_of (symbols_of_root from)) (mirror_missing from) made
AnswersMirror from (Err image.Exponent) = ⊥
AnswersMirror from (Err (image.Overflow place)) = mirror_missing from ≡ Some place
AnswersMirror from (Err image.Memory) = Unit {0}

-- The causes for which two categories have no product, each with what the ones before it leave: both have version 2; they
-- have one root; there are at most twelve pairs of labels.
abbrev pub AreSecond : (one two : DraftValue ℕ Ratio) → Type 0
AreSecond one two = (one.version ≡ 2) × (two.version ≡ 2)

abbrev pub ShareRoot : (one two : DraftValue ℕ Ratio) → Type 0
ShareRoot one two = AreSecond one two × (one.ring ≡ two.ring)

abbrev pub pairs : (one two : DraftValue ℕ Ratio) → ℕ
pairs one two = one.rules.count * two.rules.count

abbrev pub HaveProduct : (one two : DraftValue ℕ Ratio) → Type 0
HaveProduct one two = ShareRoot one two × (pairs one two ≤ LABEL_LIMIT)

abbrev pub wanted_product : (one two : DraftValue ℕ Ratio) → Symbols Ratio
wanted_product one two = product_of (symbols_of_root one) (symbols_of_root two)

-- the first item of the product that doesn't fit
abbrev pub product_missing : (one two : DraftValue ℕ Ratio) → Option Place
product_missing one two = first_place (wanted_product one two) (product_item (symbols_of_root one) (symbols_of_root two))

-- What `product` answers: the first cause that stands, or the product, or the first item that doesn't fit. Want of memory
-- is free.
abbrev pub AnswersProduct : (one two : DraftValue ℕ Ratio) → Result (DraftValue ℕ Ratio) ProductFault → Type 0
AnswersProduct one two (Ok made) = HaveProduct one two × IsMade one.ring (wanted_product one two) (product_missing one two) made
AnswersProduct one two (Err product.Version) = (one.version ≡ 1) ⊎ (two.version ≡ 1)
AnswersProduct one two (Err product.Roots) = AreSecond one two × (one.ring ≢ two.ring)
AnswersProduct one two (Err (product.Labels count)) = ShareRoot one two × (count ≡ pairs one two) × (LABEL_LIMIT < count)
AnswersProduct one two (Err (product.Overflow place)) = HaveProduct one two × (product_missing one two ≡ Some place)
AnswersProduct one two (Err product.Memory) = HaveProduct one two
