use Rattle.std.proofs.Common.{arith}
use Rattle.word_moves.proofs.ChangeLemmas.{moved_by_pages}
use Rattle.word_moves.proofs.pages.Pages.make.Goals as goal

pub returns-clause-moved : goal.returns-clause-moved
returns-clause-moved c =
    let start = c.self.inside.list.items in
    moved_by_pages c.args.strands c.args.step c.args.self.now start c.gather.new.pages.items c.change_at.new.pages.items c.settle.new.pages.items c.place-place.result c.in-Some.spot.page c.in-Some.spot.at c.in_ok-possible.possible
    c.self.view_is c.place-place.ensures (omega arith) (rw c.deref.ensures.value at c.in-Some.ensures) c.in_ok-gather.ensures.same c.in_ok-gather.ensures.before c.in_ok-possible.ensures.moved c.in_ok-settle.ensures.same
