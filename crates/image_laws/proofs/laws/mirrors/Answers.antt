use Rattle.std.proofs.Common.{subst}
use Rattle.symbol_table.specs.Draft.{DraftValue, IsOver, given}
use Rattle.symbol_table.specs.Category.{draft_symbols}
use Rattle.image_laws.proofs.GivenLemmas.{are_given, has_marks}
use Rattle.image_laws.proofs.MirrorLemmas.{has_mirror}
use Rattle.image_laws.proofs.laws.mirrors.Goals as goal

pub returns : goal.returns
returns g c =
    let draft = c.args.category.now in
    let ring = g.R.StarRing.ring draft.ring in
    let held = g.R.StarRing.held in
    let laws = g.met.R.StarRing.laws draft.ring in
    let over : IsOver ring draft =
    subst (λ (d : DraftValue _ _). IsOver (g.R.StarRing.ring d.ring) d) c.draft-draft.ensures.draft c.version-members.ensures.members in
    let all = c.all_labels.ensures in
    has_mirror (draft_symbols ring held draft) laws all.proper all.unit all.weighted c.draft-draft.ensures.lawful (are_given ring held (given draft)) (has_marks ring held laws draft over)
