use Rattle.std.proofs.Common.{◌++◌, ◌∙◌, ap, arith}
use Rattle.std.proofs.lemmas.Result.{err_from_is_err_and}
use Rattle.line_text.proofs.WritingLemmas.{still_in_front}
use Rattle.line_text.specs.Spelling.{spelled}
use Rattle.word_runs.specs.Lives.{live_of}
use Rattle.word_runs.specs.declared.live.LiveWord.{LiveWord}
use Rattle.outcome_report.specs.TreeReport.{live_lines}
use Rattle.outcome_report.proofs.LineLemmas.{next_live}
use Rattle.outcome_report.proofs.state_lines.extend_tree_report.Goals as goal

pub loop-live-preserved : goal.loop-live-preserved
loop-live-preserved c =
    let mid = c.loop-live.out.items in
    next_live c.args.names.now c.args.first.now (λ s. s) c.args.ends.now c.live-item.result c.loop-live.live-index c.args.out.now.items mid c.extend_live.new.out.items (omega arith) c.loop-live.invariant
    (c.in_ok-extend_live.ensures ∙ ap (λ (live : LiveWord _). mid ++ spelled (live_lines c.args.names.now (live_of (λ s. s) live))) c.live-item.is)

pub returns-in_err-extend_live : goal.returns-in_err-extend_live
returns-in_err-extend_live c =
    let p = err_from_is_err_and c.from_residual-in_err-extend_live.result c.from_residual-in_err-extend_live.ensures.1 in
    rw (p.1) (still_in_front c.args.out.now.items _ c.loop-live.out.items c.extend_live.new.out.items c.loop-live.invariant c.in_err-extend_live.ensures)
