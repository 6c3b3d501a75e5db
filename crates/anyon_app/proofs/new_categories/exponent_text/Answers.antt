use Rattle.std.proofs.Common.{ap, ◌∙◌, codes}
use Rattle.cyclo_core.specs.Image.{image_of as number_image}
use Rattle.category_text.specs.Named.{named_draft}
use Rattle.image_laws.specs.Images.{image_of}
use Rattle.anyon_app.specs.NewCategories.{image_made, image_missing, image_text, text_or}
use Rattle.anyon_app.specs.Refusals.{exponent_line, place_line}
use Rattle.anyon_app.specs.Verdicts.{symbols_in}
use Rattle.anyon_app.proofs.NewLemmas.{gives_as, made_is, no_image, some_image}
use Rattle.anyon_app.proofs.StageLemmas.{gives_up}
use Rattle.anyon_app.proofs.new_categories.exponent_text.Goals as goal

pub returns-in-Ok : goal.returns-in-Ok
returns-in-Ok c =
    let named = named_draft c.args.admitted.now.names c.args.admitted.now.category in
    gives_as _ c.made_text.result _ (image_text named c.args.k)
    (some_image named c.args.k c.in-Ok.ensures.0
    ∙ made_is (codes "galois") named.names named.root (image_of (number_image named.root c.args.k) (symbols_in named)) (image_missing named c.args.k) c.in-Ok.image c.in-Ok.ensures.1)
    c.made_text.ensures

pub returns-in-Err-Exponent : goal.returns-in-Err-Exponent
returns-in-Err-Exponent c =
    let named = named_draft c.args.admitted.now.names c.args.admitted.now.category in
    gives_up exponent_line c.exponent_line.result (image_text named c.args.k) (no_image named c.args.k (rw c.in-Err-Exponent.field-0-is at c.in-Err-Exponent.ensures)) c.exponent_line.ensures

pub returns-in-Err-Overflow : goal.returns-in-Err-Overflow
returns-in-Err-Overflow c =
    let named = named_draft c.args.admitted.now.names c.args.admitted.now.category in
    let told = rw c.in-Err-Overflow.field-0-is at c.in-Err-Overflow.ensures in
    gives_up (place_line (codes "galois") named.names c.in-Err-Overflow.place) c.place_line.result (image_text named c.args.k)
    (some_image named c.args.k told.0 ∙ ap (text_or (codes "galois") (image_made named c.args.k)) told.1) c.place_line.ensures
