-- The command `check CAT`: what it reads and refuses, and its report.
use Rattle.std.specs.Prelude.{ℕ, List, [], ◌∷◌, codes, decimal}
use Rattle.category_text.specs.Named.{NamedSymbols}
use Rattle.anyon_app.specs.declared.texts.Kind.TheVariants.{Category}
use Rattle.anyon_app.specs.Replies.{done}
use Rattle.anyon_app.specs.Lines.{line_of}
use Rattle.anyon_app.specs.Refusals.{too_long}
use Rattle.anyon_app.specs.Work.{Work, Says, read_work, judged}
use Rattle.anyon_app.specs.Categories.{named_of}
use Rattle.anyon_app.specs.Verdicts.{category_verdict, unless}

-- the one line that says the root and how many labels there are
abbrev pub accepted : NamedSymbols → List ℕ
accepted named = line_of (codes "accepted" ∷ codes "root" ∷ decimal named.root ∷ codes "labels" ∷ decimal named.given.count ∷ [])

-- The category of the text; what decides about it; that it is accepted.
unfoldable pub check_work : List ℕ → Work
check_work category =
    read_work (too_long Category) named_of category (λ named. judged (unless (category_verdict named)) (λ _. Says (done (accepted named))))
