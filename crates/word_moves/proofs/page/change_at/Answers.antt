use Rattle.std.proofs.Common.{◌+◌, arith}
use Rattle.std.proofs.lemmas.Result.{IfOk-weaker}
use Rattle.word_moves.proofs.ChangeLemmas.{moved_at}
use Rattle.word_moves.proofs.PageLemmas.{few_flat, page_is}
use Rattle.word_moves.proofs.page.change_at.Goals as goal

pub change-requires-clause-within : goal.change-requires-clause-within
change-requires-clause-within c = rw (page_is c.args.pages.now.items c.args.spot.page c.index_mut-page.result.now c.requires.there c.index_mut-page.ensures.value) at c.requires.within

pub returns-clause-moved : goal.returns-clause-moved
returns-clause-moved c =
    IfOk-weaker c.change.result _ _
    (λ possible made.
    moved_at c.args.strands c.args.step c.args.pages.now.items c.args.spot.page c.args.spot.at c.index_mut-page.result.now c.change.new.letters possible c.requires.there c.index_mut-page.ensures.value c.requires.enough made)
    c.change.ensures.moved

pub returns-clause-few : goal.returns-clause-few
returns-clause-few c = few_flat c.args.pages.now.items c.args.spot.page c.index_mut-page.result.now c.change.new.letters c.requires.there c.index_mut-page.ensures.value c.change.ensures.few
