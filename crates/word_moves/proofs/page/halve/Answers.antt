use Rattle.std.proofs.Common.{◌+◌, ◌∙◌, ap, sym, arith}
use Rattle.std.proofs.lemmas.List.{take-append-drop}
use Rattle.word_moves.specs.Pages.{flat}
use Rattle.word_moves.proofs.PageLemmas.{Page, halved, inserted_flat, same_flat, still_there}
use Rattle.word_moves.proofs.page.halve.Goals as goal

pub returns-in_err-back-clause-same : goal.returns-in_err-back-clause-same
returns-in_err-back-clause-same c =
    same_flat c.insert.new.self.items c.args.page c.index_mut-front.result.now c.split_off.new.self
    (still_there c.args.pages.now.items c.insert.new.self.items c.args.page c.new.result c.requires c.in_ok-insert.ensures.items) c.index_mut-front.ensures.value (ap (λ (page : Page). page.items) c.in_err-back.ensures.err) ∙ ap flat c.in_ok-insert.ensures.items
    ∙ inserted_flat c.args.pages.now.items (c.args.page + 1) c.new.result c.new.ensures.items

pub returns-clause-same : goal.returns-clause-same
returns-clause-same c =
    let old = c.index_mut-front.result.now.items in
    halved c.args.pages.now.items c.insert.new.self.items c.args.page c.new.result c.index_mut-front.result.now c.split_off.new.self c.in_ok-back.back c.requires c.in_ok-insert.ensures.items c.index_mut-front.ensures.value
    (let first = c.in_ok-back.ensures.items in let rest = c.in_ok-back.ensures.tail in rw (first, rest) (take-append-drop _ old))
