use Rattle.std.proofs.Common.{inl, arith}
use Rattle.word_moves.proofs.PageLemmas.{page_is}
use Rattle.word_moves.proofs.spot.gather.Goals as goal

pub returns-after-loop-pages-clause-enough : goal.returns-after-loop-pages-clause-enough
returns-after-loop-pages-clause-enough c =
    let same = page_is c.loop-pages.pages.items c.args.page c.index.result.now c.loop-pages.invariant.there c.index.ensures in
    inl (rw same (omega (arith, c.index.result.now.ok.0)))
