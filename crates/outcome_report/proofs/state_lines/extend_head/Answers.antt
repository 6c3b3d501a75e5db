use Rattle.std.proofs.Common.{◌∷◌, ◌++◌, [], ◌∙◌, List, ℕ, ap, codes}
use Rattle.line_text.specs.Spelling.{spelled}
use Rattle.tree_shapes.specs.Outlines.{Outline}
use Rattle.program_text.proofs.WritingLemmas.{lines_more}
use Rattle.outcome_report.specs.Labels.{label_names}
use Rattle.outcome_report.specs.TreeReport.{shape_text}
use Rattle.outcome_report.proofs.state_lines.extend_head.Goals as goal

pub returns : goal.returns
returns c =
    let first = c.args.first.now in
    let old = c.args.out.now.items in
    let mid = c.extend_label_line.new.out.items in
    lines_more ((codes "strands" ∷ label_names c.args.names.now first.strands) ∷ []) ((codes "shape" ∷ shape_text first.shape 0 ∷ []) ∷ []) old mid c.extend_shape_line.new.out.items
    (c.in_ok-extend_label_line.ensures ∙ ap (λ (labels : List ℕ). old ++ spelled ((codes "strands" ∷ label_names c.args.names.now labels) ∷ [])) (c.as_slice.ensures.value ∙ c.strands.ensures))
    (c.in_ok-extend_shape_line.ensures ∙ ap (λ (t : Outline). mid ++ spelled ((codes "shape" ∷ shape_text t 0 ∷ []) ∷ [])) c.shape.ensures)
