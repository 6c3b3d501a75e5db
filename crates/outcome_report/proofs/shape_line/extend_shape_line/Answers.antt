use Rattle.outcome_report.proofs.ShapeLemmas.{is_top, shape_more}
use Rattle.outcome_report.proofs.shape_line.extend_shape_line.Goals as goal

pub extend_part-requires : goal.extend_part-requires
extend_part-requires c = is_top c.args.shape.now c.top.result c.top.ensures

pub returns : goal.returns
returns c =
    shape_more c.args.shape.now c.top.result c.args.out.now.items c.extend_from_slice.new.self.items c.extend_part.new.out.items c.end_line.new.out.items c.top.ensures
    c.in_ok-extend_from_slice.ensures.items c.in_ok-extend_part.ensures c.in_ok-end_line.ensures
