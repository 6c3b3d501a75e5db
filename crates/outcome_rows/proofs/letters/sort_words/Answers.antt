use Rattle.std.proofs.Common.{ap}
use Rattle.std.specs.Ordering.{is_lt}
use Rattle.std.proofs.lemmas.Cmp.{nat_list_cmp_total}
use Rattle.std.proofs.lemmas.List.Sorted.{answers_always, ranks_by}
use Rattle.word_runs.specs.declared.live.LiveWord.{LiveWord}
use Rattle.outcome_rows.proofs.letters.sort_words.Goals as goal

pub returns-clause-order : goal.returns-clause-order
returns-clause-order g c =
    c.in_ok-sort_by.ensures.sorted _ (ranks_by nat_list_cmp_total (λ (l : LiveWord g.row.S.Denot). l.word.items)) (answers_always _ _ _ (λ f a r f' k. ap is_lt k.met))
