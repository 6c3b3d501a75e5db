use Rattle.std.proofs.Common.{arith}
use Rattle.word_moves.proofs.PageLemmas.{page_is}
use Rattle.word_moves.proofs.spot.find.Goals as goal

pub returns-then-at-len : goal.returns-then-at-len
returns-then-at-len c =
    let same = page_is c.args.pages.now c.loop-number.number c.index-pages-number.result c.loop-number-test.true c.index-pages-number.is in record {
      there = c.loop-number-test.true;
      within = rw same (omega (arith, c.index-pages-number.result.ok.0));
      place = c.loop-number.invariant.place;
    }
