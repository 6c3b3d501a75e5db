use Rattle.symbol_table.specs.Category.{draft_symbols}
use Rattle.runner.specs.Meaning.{AreLawful}
use Rattle.runner.proofs.OutcomeLemmas.{schedules_end, schedules_in_order, schedules_leave_some, schedules_mean_words}
use Rattle.runner.proofs.laws.rows.Goals as goal

pub returns : goal.returns
returns g c =
    let draft = c.args.category.now in
    let s = draft_symbols (g.R.StarRing.ring draft.ring) g.R.StarRing.held draft in
    let laws = g.met.R.StarRing.laws draft.ring in
    let all = c.all_labels.ensures in
    let lawful : AreLawful s = record { proper = all.proper; unit = all.unit; weighted = all.weighted; equations = all.equations } in
    record { outcomes = schedules_end s laws lawful; order = schedules_in_order s laws lawful; words = schedules_mean_words s laws lawful; some = schedules_leave_some s laws lawful }
