use Rattle.std.proofs.Common.{arith}
use Rattle.category_maker.proofs.SaidLemmas.{made_again}
use Rattle.category_maker.proofs.laws.made_categories.Goals as goal

pub returns : goal.returns
returns c = λ n low high. made_again n (omega arith) high
