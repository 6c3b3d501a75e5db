use Rattle.std.proofs.Common.{◌&&◌, ◌*◌, ◌==◌, ap, ◌∙◌, codes, if◌then◌else◌, nat_lt, not, Ok, Err}
use Rattle.category_text.specs.Named.{named_draft}
use Rattle.category_text.specs.Canonical.{canonical}
use Rattle.category_images.specs.Answers.{symbols_of_root}
use Rattle.category_images.specs.Names.{pair_names}
use Rattle.image_laws.specs.Products.{product_of}
use Rattle.anyon_app.specs.NewCategories.{named_symbols, pair_count, product_made, product_missing, product_text, text_or}
use Rattle.anyon_app.specs.Verdicts.{symbols_in}
use Rattle.anyon_app.proofs.NewLemmas.{gives_as, made_is, of_product, counted}
use Rattle.anyon_app.proofs.new_categories.product_text.Goals as goal

pub returns-in-Ok : goal.returns-in-Ok
returns-in-Ok c =
    let one = named_draft c.args.one.now.names c.args.one.now.category in
    let two = named_draft c.args.two.now.names c.args.two.now.category in
    let made = c.in-Ok.product in
    gives_as _ c.paired_text.result _ (product_text one two)
    (of_product one two c.in-Ok.ensures.0.0.0.0 c.in-Ok.ensures.0.0.0.1 c.in-Ok.ensures.0.0.1 c.in-Ok.ensures.0.1
    ∙ made_is (codes "product") (pair_names (pair_count one two)) one.root (product_of (symbols_in one) (symbols_in two)) (product_missing one two) made c.in-Ok.ensures.1
    ∙ ap (λ n. Ok (canonical (named_symbols (pair_names n) made.ring (symbols_of_root made)))) (counted one two made c.in-Ok.ensures.1))
    c.paired_text.ensures
