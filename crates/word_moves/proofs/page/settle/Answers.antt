use Rattle.std.proofs.Common.{◌∙◌, ap, arith}
use Rattle.word_moves.specs.Pages.{flat}
use Rattle.word_moves.proofs.PageLemmas.{empty_page, removed_flat}
use Rattle.word_moves.proofs.page.settle.Goals as goal

pub returns-then-len-gt1-clause-same : goal.returns-then-len-gt1-clause-same
returns-then-len-gt1-clause-same c =
    let pages = c.args.pages.now.items in
    ap flat c.remove.ensures.items ∙ removed_flat pages c.args.page (empty_page pages c.args.page c.index.result.now c.requires c.index.ensures (omega arith))
