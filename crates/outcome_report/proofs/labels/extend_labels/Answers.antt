use Rattle.std.proofs.Common.{◌∷◌, ◌++◌, ◌∙◌, List, ℕ, ap, arith}
use Rattle.fusion_rules.specs.Names.{name_of}
use Rattle.line_text.proofs.WritingLemmas.{words_more}
use Rattle.outcome_report.proofs.labels.extend_labels.Goals as goal

pub loop-label-preserved : goal.loop-label-preserved
loop-label-preserved c =
    words_more (name_of c.args.names.now) c.args.labels.now _ c.loop-label.label-index c.args.out.now.items c.loop-label.out.items c.write_word.new.out.items (omega arith) c.loop-label.invariant
    (c.in_ok-write_word.ensures ∙ ap (λ (w : List ℕ). c.loop-label.out.items ++ 32 ∷ w) c.name_or_empty.ensures)
