use Rattle.std.proofs.Common.{arith}
use Rattle.category_text.specs.Named.{named_draft}
use Rattle.anyon_app.specs.NewCategories.{image_text}
use Rattle.anyon_app.specs.Refusals.{exponent_line}
use Rattle.anyon_app.proofs.NewLemmas.{above_root, no_image}
use Rattle.anyon_app.proofs.StageLemmas.{gives_up}
use Rattle.anyon_app.proofs.new_categories.image_text.Goals as goal

pub returns-then-k-from : goal.returns-then-k-from
returns-then-k-from c =
    let named = named_draft c.args.admitted.now.names c.args.admitted.now.category in
    gives_up exponent_line c.exponent_line.result (image_text named c.args.k)
    (no_image named c.args.k (above_root named.root c.args.k (omega (arith, c.if-k-from.true, c.from.ensures, c.root.ensures.value, c.ring.ensures)))) c.exponent_line.ensures
