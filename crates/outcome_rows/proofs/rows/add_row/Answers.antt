use Rattle.outcome_rows.proofs.RowLemmas.{rows_pushed}
use Rattle.outcome_rows.proofs.rows.add_row.Goals as goal

pub returns : goal.returns
returns g c = rows_pushed c.args.rows.now.items c.push.new.self.items (record { word = c.in_ok-copy.copy; weight = c.args.weight }) c.args.word.now c.in_ok-push.ensures.items c.in_ok-copy.ensures.items
