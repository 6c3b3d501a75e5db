use Rattle.std.proofs.Common.{◌∷◌, ◌++◌, [], ◌∙◌, List, ℕ, ap, map}
use Rattle.cyclo_core.specs.Ratio.{Ratio}
use Rattle.line_text.specs.Spelling.{spelled}
use Rattle.program_text.proofs.WritingLemmas.{lines_more}
use Rattle.outcome_report.specs.TreeReport.{amp_words, word_words}
use Rattle.outcome_report.proofs.state_lines.extend_live.Goals as goal

pub returns : goal.returns
returns c =
    let names = c.args.names.now in
    let live = c.args.live.now in
    let old = c.args.out.now.items in
    let mid = c.extend_label_line.new.out.items in
    lines_more (word_words names live.word.items ∷ []) (map (amp_words names) live.state.amps) old mid c.extend_amps.new.out.items
    (c.in_ok-extend_label_line.ensures ∙ ap (λ (word : List ℕ). old ++ spelled (word_words names word ∷ [])) c.deref.ensures.value)
    (c.in_ok-extend_amps.ensures ∙ ap (λ (amps : List (List ℕ × Ratio)). mid ++ spelled (map (amp_words names) amps)) c.amps.ensures)
