use Rattle.std.proofs.Common.{subst}
use Rattle.fusion_rules.specs.Fusion.{Fusion, AreRules, fuses}
use Rattle.symbol_table.specs.Draft.{DraftValue, IsOver, given}
use Rattle.symbol_table.specs.Category.{draft_symbols}
use Rattle.symbol_table.specs.AllLabels.{IsProper}
use Rattle.symbol_table.proofs.MemberLemmas.{has_zero}
use Rattle.symbol_table.proofs.RuleLemmas.{fuse_labels, always_commute, unit_left, unit_right}
use Rattle.symbol_table.proofs.Proper.{gives_members, is_proper}
use Rattle.symbol_table.proofs.Equations.{has_equations, has_unit}
use Rattle.symbol_table.proofs.Weighted.{is_weighted}
use Rattle.symbol_table.proofs.laws.all_labels.Goals as goal

pub returns : goal.returns
returns g c =
    let draft = c.args.category.now in
    let ring = g.R.StarRing.ring draft.ring in
    let held = g.R.StarRing.held in
    let laws = g.met.R.StarRing.laws draft.ring in
    let same = c.draft-draft.ensures.draft in
    let lawful = c.draft-draft.ensures.lawful in
    let rules : AreRules draft.rules =
    subst (λ (d : DraftValue _ _). AreRules d.rules) same (subst (λ (r : Fusion). AreRules r) c.rules.ensures c.count-rules.ensures.rules) in
    let over : IsOver ring draft = subst (λ (d : DraftValue _ _). IsOver (g.R.StarRing.ring d.ring) d) same c.version-members.ensures.members in
    let labels = fuse_labels draft.rules rules in
    let proper : IsProper (draft_symbols ring held draft) =
    is_proper ring held (has_zero laws) (given draft) (gives_members ring draft over) labels (always_commute draft.rules.count (fuses draft.rules) lawful.rules labels) in
    record {
      proper = proper;
      unit = has_unit (draft_symbols ring held draft) (has_zero laws) proper lawful rules.some (unit_left draft.rules rules) (unit_right draft.rules rules);
      weighted = is_weighted ring held laws (given draft) proper lawful;
      equations = has_equations (draft_symbols ring held draft) (has_zero laws) proper lawful;
    }
