use Rattle.std.proofs.Common.{◌∙◌}
use Rattle.std.proofs.lemmas.Result.{err_from_is_err_and}
use Rattle.symbol_table.specs.Category.{draft_symbols}
use Rattle.shape_check.specs.Shapes.{left_at, right_at}
use Rattle.shape_check.proofs.SideLemmas.{right_stops, both_told}
use Rattle.shape_check.proofs.sides.are_equal.Goals as goal

pub returns-in_err-right-clause-value : goal.returns-in_err-right-clause-value
returns-in_err-right-clause-value g c =
    let draft = c.args.table.now.draft in
    let ring = g.R.StarRing.ring draft.ring in
    let held = g.R.StarRing.held in
    let symbols = draft_symbols ring held draft in
    let told = rw c.in_ok-left.ensures.draft at c.in_err-right.ensures.value in
    let p = err_from_is_err_and c.from_residual-in_err-right.result c.from_residual-in_err-right.ensures.1 in
    rw (p.1, p.2)
    (right_stops ring held c.left.new.table.values c.right.new.table.values c.in_ok-left.left _ (left_at symbols c.args.shape c.args.at.now) (right_at symbols c.args.shape c.args.at.now) c.in_ok-left.ensures.value told)

pub returns-clause-value : goal.returns-clause-value
returns-clause-value g c =
    let draft = c.args.table.now.draft in
    let ring = g.R.StarRing.ring draft.ring in
    let held = g.R.StarRing.held in
    let symbols = draft_symbols ring held draft in
    let told = rw c.in_ok-left.ensures.draft at c.in_ok-right.ensures.value in
    let is = rw (c.in_ok-right.ensures.draft ∙ c.in_ok-left.ensures.draft) at c.same.ensures in
    both_told (g.met.R.StarRing.laws draft.ring) c.left.new.table.values c.right.new.table.values c.in_ok-left.left c.in_ok-right.right c.same.result (left_at symbols c.args.shape c.args.at.now) (right_at symbols c.args.shape c.args.at.now)
    c.in_ok-right.ensures.grows c.in_ok-left.ensures.value told is
