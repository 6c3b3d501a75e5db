use Rattle.std.proofs.Common.{arith}
use Rattle.category_maker.proofs.ScheduleLemmas.{made_legal, made_read}
use Rattle.category_maker.proofs.laws.made_schedules.Goals as goal

pub returns : goal.returns
returns c = record {
  legal = λ n low high. made_legal n;
  read = λ n low high. made_read n (omega arith);
}
