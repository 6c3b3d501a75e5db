use Rattle.std.proofs.Common.{subst}
use Rattle.fusion_rules.specs.Fusion.{Fusion, AreRules}
use Rattle.symbol_table.specs.Category.{draft_symbols}
use Rattle.comb_laws.proofs.UnitLemmas.{IsUnital, is_unital}
use Rattle.comb_laws.proofs.OwnLemmas.{start_is_own}
use Rattle.comb_laws.proofs.FirstFactor.{first_factor, outcomes_same}
use Rattle.comb_laws.proofs.laws.left_comb_start.Goals as goal

pub returns : goal.returns
returns g c =
    let draft = c.args.category.now in
    let ring = g.R.StarRing.ring draft.ring in
    let laws = g.met.R.StarRing.laws draft.ring in
    let rules : AreRules draft.rules = subst (λ (rules : Fusion). AreRules rules) c.rules.ensures c.count-count.ensures.rules in
    let s = draft_symbols ring g.R.StarRing.held draft in
    let unital : IsUnital s = is_unital ring g.R.StarRing.held laws draft rules c.draft-lawful.ensures.lawful in
    record {
      start = start_is_own s laws unital;
      weight = first_factor s laws unital;
      outcomes = outcomes_same s laws unital (start_is_own s laws unital);
    }
