use Rattle.std.proofs.Common.{subst, sym}
use Rattle.symbol_table.specs.Symbols.{symbols_of}
use Rattle.symbol_table.specs.Draft.{given}
use Rattle.symbol_table.specs.Category.{symbols}
use Rattle.image_laws.specs.Category.{AreOfCategory}
use Rattle.image_laws.specs.Products.{product_of}
use Rattle.image_laws.proofs.Factors.{IsFactor, is_factor}
use Rattle.image_laws.proofs.Products.{are_of_category}
use Rattle.image_laws.proofs.laws.products.Goals as goal

pub returns : goal.returns
returns g c =
    let one = c.args.one.now in
    let two = c.args.two.now in
    let ring_of = g.R.StarRing.ring in
    let held = g.R.StarRing.held in
    let laws = g.met.R.StarRing.laws one.ring in
    let first = symbols g.R.StarRing one in
    let second = λ (r : g.row.R.Denot). symbols_of (ring_of r) held (given two) in
    let a = c.all_labels.ensures in
    let b = c.all_labels-2.ensures in
    let factor : IsFactor first =
    is_factor (ring_of one.ring) held (given one) c.requires.first c.draft-first.ensures.lawful a.proper a.unit a.weighted a.equations in
    let other : IsFactor (second two.ring) =
    is_factor (ring_of two.ring) held (given two) c.requires.second c.draft-second.ensures.lawful b.proper b.unit b.weighted b.equations in
    subst (λ r. AreOfCategory (product_of first (second r))) c.requires.ring
    (are_of_category first (second one.ring) laws factor (subst (λ r. IsFactor (second r)) (sym c.requires.ring) other))
