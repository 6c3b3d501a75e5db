-- The commands `galois CAT K`, `mirror CAT` and `product CAT CAT`: what they read, in which order they refuse, and their
-- reports.
use Rattle.std.specs.Prelude.{ℕ, ◌*◌, List, codes, ◌&&◌, ◌==◌, not, nat_lt, if◌then◌else◌, Option, Some, None, Result, Ok, Err}
use Rattle.line_text.specs.Plain.{plain_number_of}
use Rattle.cyclo_core.specs.Ratio.{Ratio}
use Rattle.cyclo_core.specs.Image.{is_exponent, image_of as number_image}
use Rattle.fusion_rules.specs.declared.label.TheConstants.{LABEL_LIMIT}
use Rattle.symbol_table.specs.Symbols.{Symbols}
use Rattle.category_text.specs.Canonical.{canonical}
use Rattle.category_text.specs.Named.{NamedSymbols}
use Rattle.image_laws.specs.Category.{given_of}
use Rattle.image_laws.specs.Images.{image_of}
use Rattle.image_laws.specs.Mirrors.{mirror_of}
use Rattle.image_laws.specs.Products.{product_of}
use Rattle.category_images.specs.Items.{image_item, mirror_item, product_item}
use Rattle.category_images.specs.Names.{pair_names}
use Rattle.category_images.specs.Places.{first_place}
use Rattle.category_images.specs.declared.place.Place.{Place}
use Rattle.anyon_app.specs.declared.texts.Kind.TheVariants.{SecondCategory}
use Rattle.anyon_app.specs.Replies.{Reply, done}
use Rattle.anyon_app.specs.Refusals.{exponent_line, place_line, product_labels_line, product_roots_line, product_version_line}
use Rattle.anyon_app.specs.Work.{Work, Says, judged}
use Rattle.anyon_app.specs.Programs.{admitted_as, admitted_work}
use Rattle.anyon_app.specs.Verdicts.{symbols_in}

-- what is named by these names, over the numbers of a root, with these symbols
abbrev pub named_symbols : List (List ℕ) → ℕ → Symbols Ratio → NamedSymbols
named_symbols names root c = record { root = root; names = names; given = given_of c }

-- the canonical text of a new category, unless an item of it doesn't fit
abbrev pub text_or : List ℕ → NamedSymbols → Option Place → Result (List ℕ) Reply
text_or command made None = Ok (canonical made)
text_or command made (Some place) = Err (place_line command made.names place)

-- the Galois image of a category where z^k is put for z
abbrev pub image_made : NamedSymbols → ℕ → NamedSymbols
image_made named k = named_symbols named.names named.root (image_of (number_image named.root k) (symbols_in named))

-- the first place at which the image has no symbol, since it is too large
abbrev pub image_missing : NamedSymbols → ℕ → Option Place
image_missing named k = first_place (symbols_in named) (image_item named.root k (symbols_in named))

-- the canonical text of the image under the exponent k, or the first that refuses it
unfoldable pub image_text : NamedSymbols → ℕ → Result (List ℕ) Reply
image_text named k = if is_exponent named.root k then text_or (codes "galois") (image_made named k) (image_missing named k) else Err exponent_line

-- by the number that a word says
abbrev pub image_by : NamedSymbols → Option ℕ → Result (List ℕ) Reply
image_by named None = Err exponent_line
image_by named (Some k) = image_text named k

-- The category of the text and what decides about it; the exponent, and the canonical text of the image.
unfoldable pub galois_work : (category word : List ℕ) → Work
galois_work category word = admitted_work category (λ named. judged (image_by named (plain_number_of word)) (λ text. Says (done text)))

-- the mirror of a category
abbrev pub mirror_made : NamedSymbols → NamedSymbols
mirror_made named = named_symbols named.names named.root (mirror_of (symbols_in named))

-- the first place at which the mirror has no symbol, since it is too large
abbrev pub mirror_missing : NamedSymbols → Option Place
mirror_missing named = first_place (symbols_in named) (mirror_item (symbols_in named))

-- the canonical text of the mirror, or the first that refuses it
abbrev pub mirror_text : NamedSymbols → Result (List ℕ) Reply
mirror_text named = text_or (codes "mirror") (mirror_made named) (mirror_missing named)

-- The category of the text and what decides about it; the canonical text of its mirror.
unfoldable pub mirror_work : List ℕ → Work
mirror_work category = admitted_work category (λ named. judged (mirror_text named) (λ text. Says (done text)))

module _ (one two : NamedSymbols) where
  -- how many pairs of labels there are
  abbrev pub pair_count : ℕ
  pair_count = one.given.count * two.given.count

  -- the product of two categories
  abbrev pub product_made : NamedSymbols
  product_made = named_symbols (pair_names pair_count) one.root (product_of (symbols_in one) (symbols_in two))

  -- the first place at which the product has no symbol, since it is too large
  abbrev pub product_missing : Option Place
  product_missing = first_place (product_of (symbols_in one) (symbols_in two)) (product_item (symbols_in one) (symbols_in two))

  -- the canonical text of the product, or the first that refuses it
  abbrev pub product_text : Result (List ℕ) Reply
  product_text =
      if not (one.given.version == 2 && two.given.version == 2) then Err product_version_line
      else (if not (one.root == two.root) then Err (product_roots_line one.root two.root)
      else (if nat_lt LABEL_LIMIT pair_count then Err (product_labels_line pair_count)
      else text_or (codes "product") product_made product_missing))

-- The category of each text and what decides about it; whether they have a product, and its canonical text.
unfoldable pub product_work : (first second : List ℕ) → Work
product_work first second =
    admitted_work first (λ one. admitted_as SecondCategory second (λ two. judged (product_text one two) (λ text. Says (done text))))
