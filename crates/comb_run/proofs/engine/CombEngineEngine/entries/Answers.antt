use Rattle.std.proofs.Common.{◌∙◌}
use Rattle.symbol_table.specs.Category.{draft_symbols}
use Rattle.comb_run.proofs.WeightLemmas.{entries_count}
use Rattle.comb_run.proofs.engine.CombEngineEngine.entries.Goals as goal

pub returns : goal.returns
returns g c =
    let category = c.args.self.now.category.now in
    let s = draft_symbols (g.R.StarRing.ring category.ring) g.R.StarRing.held category in
    let state = c.args.state.now in
    record { entries = c.len.ensures.count ∙ entries_count s (g.met.R.StarRing.laws category.ring) state.strands.items state.vector c.requires.of.entries c.len.ensures.ordered }
