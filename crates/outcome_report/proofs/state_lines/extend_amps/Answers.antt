use Rattle.std.proofs.Common.{◌∷◌, ◌++◌, [], ◌∙◌, List, ℕ, ap}
use Rattle.std.proofs.lemmas.Result.{err_from_is_err_and}
use Rattle.line_text.proofs.WritingLemmas.{still_in_front}
use Rattle.line_text.specs.Spelling.{spelled}
use Rattle.outcome_report.specs.TreeReport.{amp_words}
use Rattle.outcome_report.proofs.LineLemmas.{next_amp}
use Rattle.outcome_report.proofs.state_lines.extend_amps.Goals as goal

pub loop-place-preserved : goal.loop-place-preserved
loop-place-preserved c =
    let mid = c.loop-place.out.items in
    let number = c.entry.result.1.now in
    next_amp c.args.names.now c.args.amps.now (c.entry.result.0.now.items, number) c.loop-place.place c.args.out.now.items mid c.extend_amp.new.out.items c.entry.ensures c.loop-place.invariant
    (c.in_ok-extend_amp.ensures ∙ ap (λ (key : List ℕ). mid ++ spelled (amp_words c.args.names.now (key, number) ∷ [])) c.as_slice.ensures.value)

pub returns-in_err-extend_amp : goal.returns-in_err-extend_amp
returns-in_err-extend_amp c =
    let p = err_from_is_err_and c.from_residual.result c.from_residual.ensures.1 in
    rw (p.1) (still_in_front c.args.out.now.items _ c.loop-place.out.items c.extend_amp.new.out.items c.loop-place.invariant c.in_err-extend_amp.ensures)
