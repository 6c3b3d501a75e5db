use Rattle.std.proofs.lemmas.Result.{err_from_is_err_and}
use Rattle.anyon_app.specs.Linked.{linked_work}
use Rattle.anyon_app.proofs.StageLemmas.{goes_on, reports, stops_here}
use Rattle.anyon_app.proofs.linked.linked.Goals as goal

pub returns-in_err-admitted : goal.returns-in_err-admitted
unfolding linked_work
returns-in_err-admitted g c =
    let p = err_from_is_err_and c.from_residual.result c.from_residual.ensures.1 in
    rw (p.1, p.2) (c.in_err-admitted.ensures.passes.stopped _)

pub returns-in_err-from : goal.returns-in_err-from
unfolding linked_work
returns-in_err-from g c =
    let p = err_from_is_err_and c.from_residual-in_err-from.result c.from_residual-in_err-from.ensures.1 in
    rw (p.1, p.2) (c.in_ok-admitted.ensures.passes.passed _ _ _ (c.in_err-from.ensures.passes.stopped _))

pub returns-in_err-to : goal.returns-in_err-to
unfolding linked_work
returns-in_err-to g c =
    let p = err_from_is_err_and c.from_residual-in_err-to.result c.from_residual-in_err-to.ensures.1 in
    rw (p.1, p.2) (c.in_ok-admitted.ensures.passes.passed _ _ _ (c.in_ok-from.ensures.passes.passed _ _ _ (c.in_err-to.ensures.passes.stopped _)))

pub returns-in_err-moves : goal.returns-in_err-moves
unfolding linked_work
returns-in_err-moves g c =
    let p = err_from_is_err_and c.from_residual-in_err-moves.result c.from_residual-in_err-moves.ensures.1 in
    rw (p.1, p.2)
    (c.in_ok-admitted.ensures.passes.passed _ _ _
    (c.in_ok-from.ensures.passes.passed _ _ _ (c.in_ok-to.ensures.passes.passed _ _ _ (c.in_err-moves.ensures.passes.stopped _))))

pub returns-in_err-judge_moves : goal.returns-in_err-judge_moves
unfolding linked_work
returns-in_err-judge_moves g c =
    let p = err_from_is_err_and c.from_residual-in_err-judge_moves.result c.from_residual-in_err-judge_moves.ensures.1 in
    rw (p.1, p.2)
    (c.in_ok-admitted.ensures.passes.passed _ _ _
    (c.in_ok-from.ensures.passes.passed _ _ _
    (c.in_ok-to.ensures.passes.passed _ _ _ (c.in_ok-moves.ensures.passes.passed _ _ _ (stops_here _ _ _ _ _ c.in_err-judge_moves.ensures _)))))

pub returns : goal.returns
unfolding linked_work
returns g c =
    c.in_ok-admitted.ensures.passes.passed _ _ _
    (c.in_ok-from.ensures.passes.passed _ _ _
    (c.in_ok-to.ensures.passes.passed _ _ _
    (c.in_ok-moves.ensures.passes.passed _ _ _ (goes_on _ _ _ _ _ _ c.in_ok-judge_moves.ensures _ _ (reports _ _ _ _ _ c.linked_line.ensures)))))
