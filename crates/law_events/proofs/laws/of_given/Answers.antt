use Rattle.symbol_table.specs.Symbols.{symbols_of}
use Rattle.symbol_table.specs.Laws.{laws_of}
use Rattle.law_events.proofs.Judged.{judges_right}
use Rattle.law_events.proofs.Lists.{all_hold, none_where}
use Rattle.law_events.proofs.laws.of_given.Goals as goal

pub returns-clause-sound : goal.returns-clause-sound
returns-clause-sound g c = λ given.
    let ring = g.R.StarRing.ring c.args._ring.now in
    all_hold (symbols_of ring g.R.StarRing.held given) (judges_right ring g.R.StarRing.held (g.met.R.StarRing.laws c.args._ring.now) given) (laws_of given.version)

pub returns-clause-complete : goal.returns-clause-complete
returns-clause-complete g c = λ given are.
    let ring = g.R.StarRing.ring c.args._ring.now in
    none_where (symbols_of ring g.R.StarRing.held given) (judges_right ring g.R.StarRing.held (g.met.R.StarRing.laws c.args._ring.now) given) are (laws_of given.version)
