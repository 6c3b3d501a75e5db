use Rattle.std.proofs.Common.{◌+◌, ◌∙◌, ap, sym, arith, length, length-append}
use Rattle.word_moves.specs.Pages.{flat}
use Rattle.word_moves.proofs.LinkLemmas.{number_is}
use Rattle.word_moves.proofs.PageLemmas.{empty_page, has_letters, page_before, page_grown, page_grown_more, pulled, removed_flat, same_flat}
use Rattle.word_moves.proofs.spot.pull.Goals as goal

pub returns-then-is_empty-clause-same : goal.returns-then-is_empty-clause-same
returns-then-is_empty-clause-same c =
    let pages = c.args.pages.now.items in
    ap flat c.remove.ensures.items ∙ removed_flat pages (c.args.page + 1) (empty_page pages (c.args.page + 1) c.index-behind.result.now (omega arith) c.index-behind.ensures (number_is c.index-behind.result.now.len 0 (sym c.is_empty.ensures ∙ c.if-is_empty.true)))

pub returns-then-is_empty-clause-grown : goal.returns-then-is_empty-clause-grown
returns-then-is_empty-clause-grown c = rw (c.remove.ensures.items, page_before c.args.pages.now.items c.args.page (c.args.page + 1) (omega arith)) (omega arith)

pub returns-in_err-push-clause-same : goal.returns-in_err-push-clause-same
returns-in_err-push-clause-same c = same_flat c.args.pages.now.items c.args.page c.index_mut.result.now c.push.new.self (omega arith) c.index_mut.ensures.value c.in_err-push.ensures.items

pub returns-in_err-push-clause-grown : goal.returns-in_err-push-clause-grown
returns-in_err-push-clause-grown c = page_grown c.args.pages.now.items c.args.page c.index_mut.result.now c.push.new.self (omega arith) c.index_mut.ensures.value (omega (arith, ap length c.in_err-push.ensures.items))

pub returns-clause-same : goal.returns-clause-same
returns-clause-same c =
    pulled c.args.pages.now.items c.args.page c.index_mut.result.now c.index-behind.result.now c.push.new.self c.index_mut-2.result.now c.remove-2.new.self c.index-letter.result.now (omega arith) c.index_mut.ensures.value
    c.index-behind.ensures (has_letters c.index-behind.result.now (sym c.is_empty.ensures ∙ c.if-is_empty.false)) c.index-letter.ensures c.in_ok-push.ensures.items c.index_mut-2.ensures.value c.remove-2.ensures.items

pub returns-clause-grown : goal.returns-clause-grown
returns-clause-grown c = page_grown_more c.args.pages.now.items c.args.page c.index_mut.result.now c.push.new.self c.remove-2.new.self (omega arith) c.index_mut.ensures.value (omega (arith, simp length-append at (ap length c.in_ok-push.ensures.items)))
