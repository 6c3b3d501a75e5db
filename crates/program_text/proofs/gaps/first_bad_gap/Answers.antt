use Rattle.std.proofs.Common.{◌≡◌, sym, ◌∙◌, Option, Some, None}
use Rattle.std.specs.Prelude.{IfSome}
use Rattle.fusion_rules.specs.Fusion.{fuses}
use Rattle.tree_shapes.specs.Views.{labelled}
use Rattle.program_text.specs.Gaps.{IsFirstBad, bad_gap}
use Rattle.program_text.proofs.GapLemmas.{none_good, good_none, first_bad}
use Rattle.program_text.proofs.gaps.first_bad_gap.Goals as goal

pub returns-clause-none : goal.returns-clause-none
returns-clause-none c =
    let fuse = fuses c.args.rules.now in
    let tree = labelled c.args.tree.now in
    (λ e. none_good fuse tree 0 (sym c.bad_gap_from.ensures ∙ e), λ e. c.bad_gap_from.ensures ∙ good_none fuse tree 0 e)

pub returns-clause-least : goal.returns-clause-least
returns-clause-least c = by_result c.bad_gap_from.result c.bad_gap_from.ensures
  where
    by_result : (o : Option _) → o ≡ bad_gap (fuses c.args.rules.now) (labelled c.args.tree.now) 0 → IfSome o (IsFirstBad (fuses c.args.rules.now) (labelled c.args.tree.now))
    by_result None e = tt
    by_result (Some gap) e = first_bad (fuses c.args.rules.now) (labelled c.args.tree.now) gap (sym e)
