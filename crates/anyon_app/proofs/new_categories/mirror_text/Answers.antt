use Rattle.std.proofs.Common.{codes}
use Rattle.category_text.specs.Named.{named_draft}
use Rattle.image_laws.specs.Mirrors.{mirror_of}
use Rattle.anyon_app.specs.NewCategories.{mirror_missing, mirror_text}
use Rattle.anyon_app.specs.Verdicts.{symbols_in}
use Rattle.anyon_app.proofs.NewLemmas.{gives_as, made_is}
use Rattle.anyon_app.proofs.new_categories.mirror_text.Goals as goal

pub returns-in-Ok : goal.returns-in-Ok
returns-in-Ok c =
    let named = named_draft c.args.admitted.now.names c.args.admitted.now.category in
    gives_as _ c.made_text.result _ (mirror_text named)
    (made_is (codes "mirror") named.names named.root (mirror_of (symbols_in named)) (mirror_missing named) c.in-Ok.mirror c.in-Ok.ensures) c.made_text.ensures
