use Rattle.outcome_report.specs.Parts.{part_size}
use Rattle.outcome_report.proofs.shape_line.+extend_part.Given as goal

abbrev pub decreases-extend_part : goal.decreases-extend_part
decreases-extend_part l = part_size l.shape.now l.top
