-- The command `format CAT`: what it reads and refuses, and its report.
use Rattle.std.specs.Prelude.{ℕ, List}
use Rattle.category_text.specs.Canonical.{canonical}
use Rattle.anyon_app.specs.declared.texts.Kind.TheVariants.{Category}
use Rattle.anyon_app.specs.Replies.{done}
use Rattle.anyon_app.specs.Refusals.{too_long}
use Rattle.anyon_app.specs.Work.{Work, Says, read_work}
use Rattle.anyon_app.specs.Categories.{named_of}

-- The category of the text; its canonical text. Neither its rules nor its symbols are judged.
unfoldable pub format_work : List ℕ → Work
format_work category = read_work (too_long Category) named_of category (λ named. Says (done (canonical named)))
